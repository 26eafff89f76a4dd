use Rattle.std.proofs.Common.{Some, option_map, ap, subst, ◌∙◌}
use Rattle.mm_staging.specs.Standings.{standing_text}
use Rattle.mm_staging.specs.States.{IsLast}
use Rattle.mm_staging.proofs.LastPiece.{count_is, none_is}
use Rattle.mm_store.proofs.Going.{goes_on, tells, failed}
use Rattle.mm_staging.proofs.states.state_of.Goals as goal

pub returns-in-Some : goal.returns-in-Some
returns-in-Some g c =
    tells (goes_on c.in_ok-standing_of.ensures c.in_ok-number-in-Some-Open.ensures)
    (λ profile p says meets. let open_is = says.0
    ∙ ap (option_map standing_text) (c.in-Some-Open.is ∙ ap Some c.in-Some-Open.field-0-is) in (
      open_is,
      count_is profile p c.args.edition.now meets open_is _
          (subst (IsLast p.pieces c.args.edition.now) c.in-Some.is says.1),
    ))

pub returns-in-None : goal.returns-in-None
returns-in-None g c = tells c.in_ok-standing_of.ensures
    (λ profile p says meets. says ∙ ap (option_map standing_text) c.in-None.is)

pub returns-in-None-2 : goal.returns-in-None-2
returns-in-None-2 g c =
    tells (goes_on c.in_ok-standing_of.ensures c.in_ok-number-in-Some-Open.ensures)
    (λ profile p says meets. let open_is = says.0
    ∙ ap (option_map standing_text) (c.in-Some-Open.is ∙ ap Some c.in-Some-Open.field-0-is) in (
      open_is,
      none_is profile p c.args.edition.now meets open_is
          (subst (IsLast p.pieces c.args.edition.now) c.in-None-2.is says.1),
    ))

pub returns-in-Some-Published : goal.returns-in-Some-Published
returns-in-Some-Published g c =
    tells c.in_ok-standing_of.ensures
    (λ profile p says meets. says ∙ ap (option_map standing_text)
    (c.in-Some-Published.is ∙ ap Some c.in-Some-Published.field-0-is))

pub returns-in_err-number-in-Some-Open : goal.returns-in_err-number-in-Some-Open
returns-in_err-number-in-Some-Open g c =
    failed (goes_on c.in_ok-standing_of.ensures c.in_err-number-in-Some-Open.ensures)
    c.from_residual-in_err-number-in-Some-Open.ensures.1

pub returns-in_err-standing_of : goal.returns-in_err-standing_of
returns-in_err-standing_of g c =
    failed c.in_err-standing_of.ensures c.from_residual.ensures.1
