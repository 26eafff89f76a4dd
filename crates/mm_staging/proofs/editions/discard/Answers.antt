use Rattle.std.proofs.Common.{refl, sym, ◌∙◌}
use Rattle.mm_definitions.proofs.RefusalFacts.{refused_for, accepted_for}
use Rattle.mm_store.proofs.Applying.{declines, applies, applies_unasked, applies_not}
use Rattle.mm_staging.proofs.editions.discard.Goals as goal

pub returns-in-Some : goal.returns-in-Some
returns-in-Some g c =
    rw (← c.as_str-edition.ensures.text) (rw c.refused.ensures (declines c.in_ok-number.ensures
    (λ profile p meets says. refused_for _ c.in-Some.number (sym says ∙ c.in-Some.is))))

pub returns-in_err-number : goal.returns-in_err-number
returns-in_err-number g c =
    rw (← c.as_str-edition.ensures.text) (applies_unasked c.in_err-number.ensures c.from_residual.ensures.1)

pub returns : goal.returns
returns g c =
    rw (← c.as_str-edition.ensures.text) (applies c.in_ok-number.ensures c.in_ok-delete_edition.ensures
    (λ moment profile p meets says. (tt, accepted_for _ (sym says ∙ c.in_default.is), refl)))

pub returns-in_err-delete_edition : goal.returns-in_err-delete_edition
returns-in_err-delete_edition g c =
    rw (← c.as_str-edition.ensures.text) (applies_not c.in_ok-number.ensures c.in_err-delete_edition.ensures
    (λ profile p meets says. tt) c.from_residual-in_err-delete_edition.ensures.1)
