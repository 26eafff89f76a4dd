use Rattle.std.proofs.Common.{◌∙◌}
use Rattle.std.proofs.Math.Facts.{to_z-of_z}
use Rattle.mm_definitions.specs.Conditions.{smaller, lacks_row, lacks_medium}
use Rattle.mm_relate.proofs.Refusing.{either_lacks}
use Rattle.mm_store.proofs.Going.{goes_on, tells, failed}
use Rattle.mm_relate.proofs.ends.ends_refusal.Goals as goal

pub returns-in_err-one : goal.returns-in_err-one
returns-in_err-one g c =
    failed c.in_err-one.ensures c.from_residual.ensures.1

pub returns : goal.returns
returns g c =
    let a = c.args in
    let r = c.ranges in
    tells (goes_on (rw (to_z-of_z r.base_id) at c.in_ok-one.ensures)
    (rw (to_z-of_z r.related_id) at c.in_ok-other.ensures))
    (λ profile p says. c.smaller.ensures ∙ (λ i. smaller (says.0 i) (says.1 i))
    ∙ either_lacks (lacks_row p a.base.now a.base_id) (lacks_medium p a.base.now a.base_id)
    (lacks_row p a.related.now a.related_id) (lacks_medium p a.related.now a.related_id))

pub returns-in_err-other : goal.returns-in_err-other
returns-in_err-other g c =
    failed (goes_on c.in_ok-one.ensures c.in_err-other.ensures) c.from_residual-in_err-other.ensures.1
