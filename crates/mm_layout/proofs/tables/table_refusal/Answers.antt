use Rattle.std.proofs.Common.{sym, ◌∙◌}
use Rattle.mm_layout.proofs.Refusing.{table_23, table_24, table_free}
use Rattle.mm_store.proofs.Going.{goes_on, tells, failed}
use Rattle.mm_layout.proofs.tables.table_refusal.Goals as goal

pub returns-then-branch : goal.returns-then-branch
returns-then-branch g c =
    tells c.in_ok-is_taken.ensures
    (λ profile p says kind. table_23 p c.args.table.now c.args.identifier.now kind (sym says ∙ c.if-branch.true))

pub returns-in_err-is_taken : goal.returns-in_err-is_taken
returns-in_err-is_taken g c =
    failed c.in_err-is_taken.ensures c.from_residual.ensures.1

pub returns-then-branch-2 : goal.returns-then-branch-2
returns-then-branch-2 g c =
    tells (goes_on c.in_ok-is_taken.ensures c.in_ok-has_identifier.ensures)
    (λ profile p says kind. table_24 p c.args.table.now c.args.identifier.now kind (sym says.0 ∙ c.if-branch.false)
    (sym says.1 ∙ c.if-branch-2.true))

pub returns-else-branch-2 : goal.returns-else-branch-2
returns-else-branch-2 g c =
    tells (goes_on c.in_ok-is_taken.ensures c.in_ok-has_identifier.ensures)
    (λ profile p says kind. table_free p c.args.table.now c.args.identifier.now kind (sym says.0 ∙ c.if-branch.false)
    (sym says.1 ∙ c.if-branch-2.false))

pub returns-in_err-has_identifier : goal.returns-in_err-has_identifier
returns-in_err-has_identifier g c =
    failed (goes_on c.in_ok-is_taken.ensures c.in_err-has_identifier.ensures)
    c.from_residual-in_err-has_identifier.ensures.1
