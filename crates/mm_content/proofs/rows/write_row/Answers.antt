use Rattle.std.proofs.Common.{sym, refl, ◌∙◌}
use Rattle.std.proofs.Math.Facts.{to_z-of_z}
use Rattle.std.specs.FinMap.{get}
use Rattle.mm_definitions.specs.Keys.{item}
use Rattle.mm_definitions.proofs.Parts.{none_of}
use Rattle.mm_store.proofs.Going.{look_changes, failed}
use Rattle.mm_content.proofs.rows.write_row.Goals as goal

pub returns-then-branch : goal.returns-then-branch
returns-then-branch g c =
    look_changes (rw (to_z-of_z c.ranges.id) at c.in_ok-has_row.ensures)
    (rw (to_z-of_z c.ranges.id, to_z-of_z c.ranges.amount) at c.update_row.ensures)
    (λ profile p any says. (sym says ∙ c.if-branch.true, refl))

pub returns-else-branch : goal.returns-else-branch
returns-else-branch g c =
    look_changes (rw (to_z-of_z c.ranges.id) at c.in_ok-has_row.ensures)
    (rw (to_z-of_z c.ranges.id, to_z-of_z c.ranges.amount) at c.insert_row.ensures)
    (λ profile p any says. (
      none_of (get p.rows (item c.args.table.now c.args.id)) (sym says ∙ c.if-branch.false),
      refl,
    ))

pub returns-in_err-has_row : goal.returns-in_err-has_row
returns-in_err-has_row g c = failed c.in_err-has_row.ensures c.from_residual.ensures.1
