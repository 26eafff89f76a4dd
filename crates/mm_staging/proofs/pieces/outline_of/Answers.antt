use Rattle.std.proofs.Common.{◌≡◌, Some, pos, rules, ap, subst, ◌∙◌, w64, inr, refl}
use Rattle.std.proofs.Math.Facts.{to_z-of_z}
use Rattle.std.specs.FinMap.{get}
use mir.Val.{SFits}
use Rattle.mm_definitions.specs.Keys.{piece}
use Rattle.mm_staging.specs.Kept.{IsKeptRow}
use Rattle.mm_staging.specs.Outlines.{with_bytes}
use Rattle.mm_staging.proofs.Spelled.{spelled_row, blob_holds}
use Rattle.mm_blobs.proofs.Viewing.{finds_as}
use Rattle.mm_layout.proofs.Leaving.{finds_failing, finds_untold}
use Rattle.mm_staging.proofs.pieces.outline_of.Goals as goal

pub returns-in-Some-spelled : goal.returns-in-Some-spelled
returns-in-Some-spelled g c =
    let is : c.from.result ≡ pos c.args.number = search rules in
    let fits : SFits w64 c.from.result = search rules in
    let key = piece c.as_str-edition.result.now (pos c.args.number) in
    rw (← c.as_str-edition.ensures.text)
    (finds_as (rw is at (rw (to_z-of_z fits) at c.in_ok-kept.ensures))
    (λ v says profile meets.
    let read = subst (IsKeptRow v.kept.shelf (get v.content.pieces key)) c.in-Some.is says in
    let outline = c.in-Some-spelled.outline in (
      read.0,
      blob_holds v.kept.shelf c.in-Some.kept.blob outline read.0 c.in-Some-spelled.ensures.blob read.1,
      read.2 ∙ ap Some (spelled_row profile _ (with_bytes read.0 outline) (meets.q15.spelled _ _ read.2)
          (c.in-Some-spelled.ensures.piece read.0)),
    )))

pub returns-in-None-spelled : goal.returns-in-None-spelled
returns-in-None-spelled g c = rw (← c.as_str-edition.ensures.text) (finds_untold c.in_ok-kept.ensures (inr refl))

pub returns-in-None : goal.returns-in-None
returns-in-None g c =
    let is : c.from.result ≡ pos c.args.number = search rules in
    let fits : SFits w64 c.from.result = search rules in
    let key = piece c.as_str-edition.result.now (pos c.args.number) in
    rw (← c.as_str-edition.ensures.text)
    (finds_as (rw is at (rw (to_z-of_z fits) at c.in_ok-kept.ensures))
    (λ v says profile meets. subst (IsKeptRow v.kept.shelf (get v.content.pieces key)) c.in-None.is says))

pub returns-in_err-kept : goal.returns-in_err-kept
returns-in_err-kept g c =
    rw (← c.as_str-edition.ensures.text) (finds_failing c.in_err-kept.ensures c.from_residual.ensures.1)
