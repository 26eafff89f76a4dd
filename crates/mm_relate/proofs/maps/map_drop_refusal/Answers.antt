use Rattle.std.proofs.Common.{sym, ◌∙◌}
use Rattle.std.proofs.Math.Facts.{to_z-of_z}
use Rattle.mm_relate.proofs.Refusing.{map_drop_44, map_drop_46, map_drop_free}
use Rattle.mm_store.proofs.Going.{goes_on, tells, failed}
use Rattle.mm_relate.proofs.maps.map_drop_refusal.Goals as goal

pub returns-then-not-branch : goal.returns-then-not-branch
returns-then-not-branch g c =
    let a = c.args in
    tells c.in_ok-has_relation.ensures
    (λ profile p says. map_drop_44 p a.mapping.now a.base_id a.related_id (sym says ∙ c.if-not-branch.true))

pub returns-in_err-has_relation : goal.returns-in_err-has_relation
returns-in_err-has_relation g c =
    failed c.in_err-has_relation.ensures c.from_residual.ensures.1

pub returns-then-branch : goal.returns-then-branch
returns-then-branch g c =
    let a = c.args in
    let r = c.ranges in
    tells (goes_on c.in_ok-has_relation.ensures
    (rw (to_z-of_z r.base_id, to_z-of_z r.related_id) at c.in_ok-has_pairing.ensures))
    (λ profile p says. map_drop_free p a.mapping.now a.base_id a.related_id (sym says.0 ∙ c.if-not-branch.false)
    (sym says.1 ∙ c.if-branch.true))

pub returns-else-branch : goal.returns-else-branch
returns-else-branch g c =
    let a = c.args in
    let r = c.ranges in
    tells (goes_on c.in_ok-has_relation.ensures
    (rw (to_z-of_z r.base_id, to_z-of_z r.related_id) at c.in_ok-has_pairing.ensures))
    (λ profile p says. map_drop_46 p a.mapping.now a.base_id a.related_id (sym says.0 ∙ c.if-not-branch.false)
    (sym says.1 ∙ c.if-branch.false))

pub returns-in_err-has_pairing : goal.returns-in_err-has_pairing
returns-in_err-has_pairing g c =
    failed (goes_on c.in_ok-has_relation.ensures c.in_err-has_pairing.ensures)
    c.from_residual-in_err-has_pairing.ensures.1
