use Rattle.std.proofs.Common.{refl, sym, ◌∙◌}
use Rattle.mm_definitions.proofs.RefusalFacts.{refused_for, accepted_for}
use Rattle.mm_relate.proofs.Fresh.{IsNew, is_new}
use Rattle.mm_store.proofs.Going.{changes_then, change_where}
use Rattle.mm_store.proofs.Applying.{declines, applies, applies_unasked, applies_not}
use Rattle.mm_relate.proofs.relations.relate.Goals as goal

pub returns-in-Some : goal.returns-in-Some
returns-in-Some g c =
    rw c.refused.ensures (declines c.in_ok-number.ensures
    (λ profile p meets says. refused_for _ c.in-Some.number (sym (says meets) ∙ c.in-Some.is)))

pub returns-in_err-number : goal.returns-in_err-number
returns-in_err-number g c =
    applies_unasked c.in_err-number.ensures c.from_residual.ensures.1

pub returns-in_err-insert_relation : goal.returns-in_err-insert_relation
returns-in_err-insert_relation g c =
    let a = c.args in
    applies_not c.in_ok-number.ensures
    (change_where (IsNew a.mapping.now) c.in_err-insert_relation.ensures (λ p new. new.0))
    (λ profile p meets says. is_new profile p meets a.mapping.now a.base.now a.related.now a.name c.requires
    (sym c.in_default.is ∙ says meets))
    c.from_residual-in_err-insert_relation.ensures.1

pub returns : goal.returns
returns g c =
    let a = c.args in
    applies c.in_ok-number.ensures (changes_then
    (change_where (IsNew a.mapping.now) (rw c.text_of_name.ensures at c.in_ok-insert_relation.ensures) (λ p new. new.0))
    c.in_ok-insert_related_row.ensures (λ p new. new.1))
    (λ moment profile p meets says. let none = sym c.in_default.is
    ∙ says meets in (
      is_new profile p meets a.mapping.now a.base.now a.related.now a.name c.requires none,
      accepted_for
          _ (sym none),
      refl,
    ))

pub returns-in_err-insert_related_row : goal.returns-in_err-insert_related_row
returns-in_err-insert_related_row g c =
    let a = c.args in
    applies_not c.in_ok-number.ensures
    (changes_then (change_where (IsNew a.mapping.now) c.in_ok-insert_relation.ensures (λ p new. new.0))
    c.in_err-insert_related_row.ensures (λ p new. new.1))
    (λ profile p meets says. is_new profile p meets a.mapping.now a.base.now a.related.now a.name c.requires
    (sym c.in_default.is ∙ says meets))
    c.from_residual-in_err-insert_related_row.ensures.1
