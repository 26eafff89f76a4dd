use Rattle.std.proofs.Common.{option_map, sym, ap, ◌∙◌}
use Rattle.std.proofs.Math.Facts.{to_z-of_z}
use Rattle.mm_relate.specs.Relations.{both_bytes}
use Rattle.mm_relate.proofs.Refusing.{map_44, map_by_ends, map_45, map_free}
use Rattle.mm_store.proofs.Going.{goes_on, tells, failed}
use Rattle.mm_relate.proofs.maps.map_refusal.Goals as goal

pub returns-in_default : goal.returns-in_default
returns-in_default g c =
    let a = c.args in
    tells c.in_ok-base.ensures (λ profile p says. map_44 p a.mapping.now a.base_id a.related_id
    (says ∙ ap (option_map both_bytes) c.in_default.is))

pub returns-in_err-base : goal.returns-in_err-base
returns-in_err-base g c =
    failed c.in_err-base.ensures c.from_residual.ensures.1

pub returns-in-Some-2 : goal.returns-in-Some-2
returns-in-Some-2 g c =
    let a = c.args in
    let r = c.ranges in
    tells (goes_on c.in_ok-base.ensures
    (rw (c.as_str.ensures.value, c.as_str-2.ensures.value, to_z-of_z r.base_id, to_z-of_z r.related_id) at
    c.in_ok-number.ensures))
    (λ profile p says. map_by_ends p a.mapping.now a.base_id a.related_id _
    (says.0 ∙ ap (option_map both_bytes) c.in-Some.is) c.in-Some-2.number (sym c.in-Some-2.is ∙ says.1))

pub returns-in_err-number : goal.returns-in_err-number
returns-in_err-number g c =
    failed (goes_on c.in_ok-base.ensures c.in_err-number.ensures) c.from_residual-in_err-number.ensures.1

pub returns-then-branch : goal.returns-then-branch
returns-then-branch g c =
    let a = c.args in
    let r = c.ranges in
    tells (goes_on (goes_on c.in_ok-base.ensures
    (rw (c.as_str.ensures.value, c.as_str-2.ensures.value, to_z-of_z r.base_id, to_z-of_z r.related_id) at
    c.in_ok-number.ensures)) (rw (to_z-of_z r.base_id, to_z-of_z r.related_id) at c.in_ok-has_pairing.ensures))
    (λ profile p says. map_45 p a.mapping.now a.base_id a.related_id _
    (says.0.0 ∙ ap (option_map both_bytes) c.in-Some.is) (sym c.in_default-2.is ∙ says.0.1)
    (sym says.1 ∙ c.if-branch.true))

pub returns : goal.returns
returns g c =
    let a = c.args in
    let r = c.ranges in
    tells (goes_on (goes_on c.in_ok-base.ensures
    (rw (c.as_str.ensures.value, c.as_str-2.ensures.value, to_z-of_z r.base_id, to_z-of_z r.related_id) at
    c.in_ok-number.ensures)) (rw (to_z-of_z r.base_id, to_z-of_z r.related_id) at c.in_ok-has_pairing.ensures))
    (λ profile p says. map_free p a.mapping.now a.base_id a.related_id _
    (says.0.0 ∙ ap (option_map both_bytes) c.in-Some.is) (sym c.in_default-2.is ∙ says.0.1)
    (sym says.1 ∙ c.if-branch.false))

pub returns-in_err-has_pairing : goal.returns-in_err-has_pairing
returns-in_err-has_pairing g c =
    failed (goes_on (goes_on c.in_ok-base.ensures c.in_ok-number.ensures) c.in_err-has_pairing.ensures)
    c.from_residual-in_err-has_pairing.ensures.1
