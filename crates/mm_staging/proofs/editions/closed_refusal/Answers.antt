use Rattle.std.proofs.Common.{Some, option_map, ap, ◌∙◌}
use Rattle.mm_staging.specs.Standings.{standing_text}
use Rattle.mm_staging.proofs.Refusing.{closed_51, closed_55, closed_not}
use Rattle.mm_store.proofs.Going.{tells, failed}
use Rattle.mm_staging.proofs.editions.closed_refusal.Goals as goal

pub returns-in-Some-Open : goal.returns-in-Some-Open
returns-in-Some-Open g c =
    tells c.in_ok-standing_of.ensures
    (λ profile p says. closed_not p c.args.edition.now
    (says ∙ ap (option_map standing_text) (c.in-Some-Open.is ∙ ap Some c.in-Some-Open.field-0-is)))

pub returns-in-Some-Published : goal.returns-in-Some-Published
returns-in-Some-Published g c =
    tells c.in_ok-standing_of.ensures
    (λ profile p says. closed_55 p c.args.edition.now
    (says ∙ ap (option_map standing_text) (c.in-Some-Published.is ∙ ap Some c.in-Some-Published.field-0-is)))

pub returns-in-None : goal.returns-in-None
returns-in-None g c = tells c.in_ok-standing_of.ensures
    (λ profile p says. closed_51 p c.args.edition.now (says ∙ ap (option_map standing_text) c.in-None.is))

pub returns-in_err-standing_of : goal.returns-in_err-standing_of
returns-in_err-standing_of g c =
    failed c.in_err-standing_of.ensures c.from_residual.ensures.1
