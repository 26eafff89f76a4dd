use Rattle.std.proofs.Common.{refl, Some, option_map, ap, ◌∙◌}
use Rattle.std.proofs.Math.Facts.{to_z-of_z}
use Rattle.mm_staging.specs.Kept.{kept_row}
use Rattle.mm_staging.specs.Standings.{standing_text}
use Rattle.mm_laws.proofs.PieceReasons.{stage_51, stage_55}
use Rattle.mm_staging.proofs.Numbering.{placed, unplaced}
use Rattle.mm_store.proofs.Going.{goes_on, goes_less, tells, failed}
use Rattle.mm_staging.proofs.staging.place_of.Goals as goal

pub returns-in-Some-Published : goal.returns-in-Some-Published
returns-in-Some-Published g c =
    tells c.in_ok-standing_of.ensures
    (λ profile p says meets low q is. stage_55 p c.args.edition.now c.args.number q
    (says ∙ ap (option_map standing_text) (c.in-Some-Published.is ∙ ap Some c.in-Some-Published.field-0-is)))

pub returns-in-None : goal.returns-in-None
returns-in-None g c =
    tells c.in_ok-standing_of.ensures
    (λ profile p says meets low q is. stage_51 p c.args.edition.now c.args.number q
    (says ∙ ap (option_map standing_text) c.in-None.is))

pub returns-in_err-standing_of : goal.returns-in_err-standing_of
returns-in_err-standing_of g c =
    failed c.in_err-standing_of.ensures c.from_residual.ensures.1

pub returns-in-Some : goal.returns-in-Some
returns-in-Some g c =
    tells (goes_on c.in_ok-standing_of.ensures (rw (to_z-of_z c.ranges.number) at c.in_ok-kept.ensures))
    (λ profile p says meets low q is. placed profile p c.args.edition.now c.args.number q meets low
    (says.0 ∙ ap (option_map standing_text) (c.in-Some-Open.is ∙ ap Some c.in-Some-Open.field-0-is)) _ _ is
    (says.1 ∙ ap (option_map kept_row) c.in-Some.is) c.place_at.result c.place_at.ensures)

pub returns-in-None-2 : goal.returns-in-None-2
returns-in-None-2 g c =
    goes_less (goes_on (goes_on c.in_ok-standing_of.ensures (rw (to_z-of_z c.ranges.number) at c.in_ok-kept.ensures))
    (rw (to_z-of_z c.ranges.number) at c.place_behind.ensures))
    (λ profile p place when says. (
      refl,
      λ meets low q is. unplaced profile p c.args.edition.now c.args.number q meets low
          (says.0.0 ∙ ap (option_map standing_text) (c.in-Some-Open.is ∙ ap Some c.in-Some-Open.field-0-is))
          (says.0.1 ∙ ap (option_map kept_row) c.in-None-2.is) place says.1,
    ))

pub returns-in_err-kept : goal.returns-in_err-kept
returns-in_err-kept g c =
    failed (goes_on c.in_ok-standing_of.ensures c.in_err-kept.ensures) c.from_residual-in_err-kept.ensures.1
