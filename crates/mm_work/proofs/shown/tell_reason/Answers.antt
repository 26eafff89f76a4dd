use Rattle.std.proofs.Common.{◌∙◌, inr, take, drop, refl, sym}
use Rattle.std.proofs.lemmas.List.{take-append-drop}
use Rattle.mm_work.proofs.shown.tell_reason.Goals as goal

pub returns-in-Cut-clause-told : goal.returns-in-Cut-clause-told
returns-in-Cut-clause-told g c =
    let (failed, taken, less, appends) = c.in-Cut.ensures.sent in
    let text = c.as_slice.result.now in (
      (
        take taken text,
        drop taken text,
        sym (rw c.get.ensures.number at (c.as_slice.ensures.value ∙ c.numbered_line-line.ensures)) ∙ sym
            (take-append-drop taken text),
        appends,
      ),
      inr (refl, failed),
    )
