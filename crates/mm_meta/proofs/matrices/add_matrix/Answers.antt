use Rattle.std.proofs.Common.{refl, sym, ◌∙◌}
use Rattle.mm_definitions.proofs.RefusalFacts.{refused_for, accepted_for}
use Rattle.mm_meta.proofs.RefusingMatrices.{matrix_is_new}
use Rattle.mm_store.proofs.Going.{changes_then}
use Rattle.mm_layout.proofs.Lending.{refuses, command_failed, lends, lends_not}
use Rattle.mm_meta.proofs.matrices.add_matrix.Goals as goal

pub returns-in-Some : goal.returns-in-Some
returns-in-Some g c =
    rw (← c.as_str-table.ensures.text) (rw c.refused.ensures (refuses c.in_ok-number.ensures
    (λ profile p meets says. refused_for _ c.in-Some.number (sym (says meets) ∙ c.in-Some.is))))

pub returns-in_err-number : goal.returns-in_err-number
returns-in_err-number g c =
    rw (← c.as_str-table.ensures.text) (command_failed c.in_err-number.ensures c.from_residual.ensures.1)

pub returns-in_err-insert_matrix : goal.returns-in_err-insert_matrix
returns-in_err-insert_matrix g c =
    let a = c.args in
    let table = c.as_str-table.result.now in
    rw (← c.as_str-table.ensures.text) (lends_not c.in_ok-number.ensures c.in_err-insert_matrix.ensures
    (λ profile p meets says. matrix_is_new p table a.zoom a.matrix.now (sym c.in_default.is ∙ says meets))
    c.from_residual-in_err-insert_matrix.ensures.1)

pub returns : goal.returns
returns g c =
    let a = c.args in
    let table = c.as_str-table.result.now in
    rw (← c.as_str-table.ensures.text)
    (lends c.in_ok-number.ensures (changes_then c.in_ok-insert_matrix.ensures c.in_ok-set_last_change.ensures
    (λ p new. tt))
    (λ profile p meets says. let none = sym c.in_default.is
    ∙ says meets in (matrix_is_new p table a.zoom a.matrix.now none, accepted_for _ (sym none), refl)))

pub returns-in_err-set_last_change : goal.returns-in_err-set_last_change
returns-in_err-set_last_change g c =
    let a = c.args in
    let table = c.as_str-table.result.now in
    rw (← c.as_str-table.ensures.text)
    (lends_not c.in_ok-number.ensures
    (changes_then c.in_ok-insert_matrix.ensures c.in_err-set_last_change.ensures (λ p new. tt))
    (λ profile p meets says. matrix_is_new p table a.zoom a.matrix.now (sym c.in_default.is ∙ says meets))
    c.from_residual-in_err-set_last_change.ensures.1)
