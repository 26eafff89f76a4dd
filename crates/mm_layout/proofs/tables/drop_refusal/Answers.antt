use Rattle.std.proofs.Common.{sym, ◌∙◌}
use Rattle.mm_layout.proofs.Refusing.{drop_25, drop_48, drop_free}
use Rattle.mm_store.proofs.Going.{goes_on, tells, failed}
use Rattle.mm_layout.proofs.tables.drop_refusal.Goals as goal

pub returns-then-not-branch : goal.returns-then-not-branch
returns-then-not-branch g c =
    tells c.in_ok-has_table.ensures (λ profile p says. drop_25 p c.args.table.now (sym says ∙ c.if-not-branch.true))

pub returns-in_err-has_table : goal.returns-in_err-has_table
returns-in_err-has_table g c =
    failed c.in_err-has_table.ensures c.from_residual.ensures.1

pub returns-then-branch : goal.returns-then-branch
returns-then-branch g c =
    tells (goes_on c.in_ok-has_table.ensures c.in_ok-uses_table.ensures)
    (λ profile p says. drop_48 p c.args.table.now (sym says.0 ∙ c.if-not-branch.false) (sym says.1 ∙ c.if-branch.true))

pub returns-else-branch : goal.returns-else-branch
returns-else-branch g c =
    tells (goes_on c.in_ok-has_table.ensures c.in_ok-uses_table.ensures)
    (λ profile p says. drop_free p c.args.table.now (sym says.0 ∙ c.if-not-branch.false)
    (sym says.1 ∙ c.if-branch.false))

pub returns-in_err-uses_table : goal.returns-in_err-uses_table
returns-in_err-uses_table g c =
    failed (goes_on c.in_ok-has_table.ensures c.in_err-uses_table.ensures) c.from_residual-in_err-uses_table.ensures.1
