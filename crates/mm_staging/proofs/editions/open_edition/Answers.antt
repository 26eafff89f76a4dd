use Rattle.std.proofs.Common.{option_map, refl, ap, ◌∙◌}
use Rattle.mm_definitions.proofs.RefusalFacts.{refused_for, accepted_for}
use Rattle.mm_staging.specs.Standings.{standing_text}
use Rattle.mm_staging.proofs.Refusing.{taken_50, free_50}
use Rattle.mm_store.proofs.Applying.{declines, applies, applies_unasked, applies_not}
use Rattle.mm_staging.proofs.editions.open_edition.Goals as goal

pub returns-in-Some : goal.returns-in-Some
returns-in-Some g c =
    let edition = c.as_str-edition.result.now in
    rw (← c.as_str-edition.ensures.text) (rw c.refused.ensures (declines c.in_ok-standing_of.ensures
    (λ profile p meets says. refused_for _ 50
    (taken_50 p edition (says ∙ ap (option_map standing_text) c.in-Some.is)))))

pub returns-in_err-standing_of : goal.returns-in_err-standing_of
returns-in_err-standing_of g c =
    rw (← c.as_str-edition.ensures.text) (applies_unasked c.in_err-standing_of.ensures c.from_residual.ensures.1)

pub returns : goal.returns
returns g c =
    let edition = c.as_str-edition.result.now in
    rw (← c.as_str-edition.ensures.text) (applies c.in_ok-standing_of.ensures c.in_ok-insert_edition.ensures
    (λ moment profile p meets says. let none = says ∙ ap (option_map standing_text) c.in-None.is in
    (none, accepted_for _ (free_50 p edition none), refl)))

pub returns-in_err-insert_edition : goal.returns-in_err-insert_edition
returns-in_err-insert_edition g c =
    rw (← c.as_str-edition.ensures.text) (applies_not c.in_ok-standing_of.ensures c.in_err-insert_edition.ensures
    (λ profile p meets says. says ∙ ap (option_map standing_text) c.in-None.is)
    c.from_residual-in_err-insert_edition.ensures.1)
