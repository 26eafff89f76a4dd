use Rattle.std.proofs.Common.{refl, ◌||◌, sym, ap, ◌∙◌}
use Rattle.std.proofs.Math.Facts.{to_z-of_z}
use Rattle.std.specs.FinMap.{contains_key}
use Rattle.mm_definitions.specs.Keys.{item}
use Rattle.mm_store.proofs.Going.{goes_on, goes_less, tells, failed}
use Rattle.mm_reads.proofs.items.has_item.Goals as goal

pub returns-then-branch : goal.returns-then-branch
returns-then-branch g c =
    let a = c.args in
    tells (rw (to_z-of_z c.ranges.id) at c.in_ok-has_row.ensures)
    (λ profile p says. sym (ap (λ b. b || contains_key p.media (item a.table.now a.id)) (sym says ∙ c.if-branch.true)))

pub returns-else-branch : goal.returns-else-branch
returns-else-branch g c =
    let a = c.args in
    goes_less (goes_on (rw (to_z-of_z c.ranges.id) at c.in_ok-has_row.ensures)
    (rw (to_z-of_z c.ranges.id) at c.has_medium.ensures))
    (λ profile p found when says. (
      refl,
      says.1
          ∙ sym (ap (λ b. b || contains_key p.media (item a.table.now a.id)) (sym says.0 ∙ c.if-branch.false)),
    ))

pub returns-in_err-has_row : goal.returns-in_err-has_row
returns-in_err-has_row g c =
    failed c.in_err-has_row.ensures c.from_residual.ensures.1
