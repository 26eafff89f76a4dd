use Rattle.std.proofs.Common.{sym, ◌∙◌}
use Rattle.std.proofs.Math.Facts.{to_z-of_z}
use Rattle.mm_content.proofs.Refusing.{row_drop_by_kind, row_drop_40, row_drop_42, row_drop_free}
use Rattle.mm_store.proofs.Going.{goes_on, tells, failed}
use Rattle.mm_content.proofs.rows.row_drop_refusal.Goals as goal

pub returns-in-Some : goal.returns-in-Some
returns-in-Some g c =
    let a = c.args in
    tells c.in_ok-number.ensures.told
    (λ profile p says meets. row_drop_by_kind p a.table.now a.id c.in-Some.number (sym c.in-Some.is ∙ says meets))

pub returns-in_err-number : goal.returns-in_err-number
returns-in_err-number g c =
    failed c.in_err-number.ensures.told c.from_residual.ensures.1

pub returns-then-not-branch : goal.returns-then-not-branch
returns-then-not-branch g c =
    let a = c.args in
    tells (goes_on c.in_ok-number.ensures.told (rw (to_z-of_z c.ranges.id) at c.in_ok-has_row.ensures))
    (λ profile p says meets. row_drop_40 p a.table.now a.id (sym c.in_default.is ∙ says.0 meets)
    (sym says.1 ∙ c.if-not-branch.true))

pub returns-in_err-has_row : goal.returns-in_err-has_row
returns-in_err-has_row g c =
    failed (goes_on c.in_ok-number.ensures.told c.in_err-has_row.ensures) c.from_residual-in_err-has_row.ensures.1

pub returns-then-branch : goal.returns-then-branch
returns-then-branch g c =
    let a = c.args in
    tells (goes_on (goes_on c.in_ok-number.ensures.told (rw (to_z-of_z c.ranges.id) at c.in_ok-has_row.ensures))
    (rw (to_z-of_z c.ranges.id) at c.in_ok-is_mapped.ensures))
    (λ profile p says meets. row_drop_42 p a.table.now a.id (sym c.in_default.is ∙ says.0.0 meets)
    (sym says.0.1 ∙ c.if-not-branch.false) (sym says.1 ∙ c.if-branch.true))

pub returns-else-branch : goal.returns-else-branch
returns-else-branch g c =
    let a = c.args in
    tells (goes_on (goes_on c.in_ok-number.ensures.told (rw (to_z-of_z c.ranges.id) at c.in_ok-has_row.ensures))
    (rw (to_z-of_z c.ranges.id) at c.in_ok-is_mapped.ensures))
    (λ profile p says meets. row_drop_free p a.table.now a.id (sym c.in_default.is ∙ says.0.0 meets)
    (sym says.0.1 ∙ c.if-not-branch.false) (sym says.1 ∙ c.if-branch.false))

pub returns-in_err-is_mapped : goal.returns-in_err-is_mapped
returns-in_err-is_mapped g c =
    failed (goes_on (goes_on c.in_ok-number.ensures.told c.in_ok-has_row.ensures) c.in_err-is_mapped.ensures)
    c.from_residual-in_err-is_mapped.ensures.1
