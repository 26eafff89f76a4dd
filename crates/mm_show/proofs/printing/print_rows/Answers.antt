use Rattle.std.proofs.Common.{◌∙◌, inr, take, drop, refl, sym}
use Rattle.std.proofs.lemmas.List.{take-append-drop}
use Rattle.mm_show.proofs.printing.print_rows.Goals as goal

pub returns-clause-printed : goal.returns-clause-printed
returns-clause-printed g c =
    let (failed, taken, less, appends) = c.in-Cut.ensures.sent in
    let text = c.in-Ok.text.items in (
      (
        take taken text,
        drop taken text,
        rw c.as_str.ensures.text at (sym c.in-Ok.ensures) ∙ sym
            (take-append-drop taken text),
        rw c.as_slice.ensures.value at appends,
      ),
      inr (refl, failed),
    )
