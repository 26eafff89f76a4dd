use Rattle.std.proofs.Common.{refl, sym, ◌∙◌}
use Rattle.mm_definitions.proofs.RefusalFacts.{refused_for, accepted_for}
use Rattle.mm_layout.specs.Rows.{IsUnregistered}
use Rattle.mm_layout.proofs.Refusing.{table_is_new}
use Rattle.mm_layout.proofs.Registered.{unregistered}
use Rattle.mm_store.proofs.Going.{changes_then, change_where}
use Rattle.mm_layout.proofs.Lending.{refuses, command_failed, lends, lends_not}
use Rattle.mm_layout.proofs.tables.add_table.Goals as goal

pub returns-in-Some : goal.returns-in-Some
returns-in-Some g c =
    rw (← c.as_str-table.ensures.text) (rw c.refused.ensures (refuses c.in_ok-number.ensures
    (λ profile p meets says. refused_for _ c.in-Some.number (sym (says c.args.kind) ∙ c.in-Some.is))))

pub returns-in_err-number : goal.returns-in_err-number
returns-in_err-number g c =
    rw (← c.as_str-table.ensures.text) (command_failed c.in_err-number.ensures c.from_residual.ensures.1)

pub returns-in_err-insert_plain_contents : goal.returns-in_err-insert_plain_contents
returns-in_err-insert_plain_contents g c =
    let a = c.args in
    let table = c.as_str-table.result.now in
    rw (← c.as_str-table.ensures.text)
    (lends_not c.in_ok-number.ensures
    (change_where (IsUnregistered table) c.in_err-insert_plain_contents.ensures (λ p new. new.0))
    (λ profile p meets says. unregistered profile p meets table
    (table_is_new p table a.identifier.now a.kind (sym c.in_default.is ∙ says a.kind)))
    c.from_residual-in_err-insert_plain_contents.ensures.1)

pub returns : goal.returns
returns g c =
    let a = c.args in
    let table = c.as_str-table.result.now in
    rw (← c.as_str-table.ensures.text)
    (lends c.in_ok-number.ensures (changes_then
    (change_where (IsUnregistered table) c.in_ok-insert_plain_contents.ensures (λ p new. new.0))
    (rw c.text_of_kind.ensures at c.in_ok-insert_kind.ensures) (λ p new. new.1))
    (λ profile p meets says. let none = sym c.in_default.is
    ∙ says a.kind in (
      unregistered profile p meets table (table_is_new p table a.identifier.now a.kind none),
      accepted_for _ (sym none),
      refl,
    )))

pub returns-in_err-insert_kind : goal.returns-in_err-insert_kind
returns-in_err-insert_kind g c =
    let a = c.args in
    let table = c.as_str-table.result.now in
    rw (← c.as_str-table.ensures.text)
    (lends_not c.in_ok-number.ensures
    (changes_then (change_where (IsUnregistered table) c.in_ok-insert_plain_contents.ensures (λ p new. new.0))
    c.in_err-insert_kind.ensures (λ p new. new.1))
    (λ profile p meets says. unregistered profile p meets table
    (table_is_new p table a.identifier.now a.kind (sym c.in_default.is ∙ says a.kind)))
    c.from_residual-in_err-insert_kind.ensures.1)
