use Rattle.mm_definitions.specs.Stamp.{stamp_text}
use Rattle.jiff.specs.Words.{epoch_day}
use Rattle.std.proofs.Common.{pos, ap, ◌≡◌, ◌/◌, ◌%◌, sym, subst, ◌∙◌, unsigned_abs}
use Rattle.std.specs.Str.{IsUtf8}
use Rattle.std.proofs.lemmas.Result.{IfOk-weaker}
use Rattle.mm_definitions.proofs.StampText.{stamp_utf8, utf8_ok}
use Rattle.mm_definitions.proofs.moments.stamp.Goals as goal

pub unwrap-text-requires : goal.unwrap-text-requires
unwrap-text-requires c =
    let date = c.date_of-date.result in
    utf8_ok c.from_utf8.result _ _ _ c.from_utf8.ensures.cases
    (subst IsUtf8 (sym c.bytes_on-bytes.ensures)
    (stamp_utf8 (unsigned_abs date.year) date.month date.day (c.moment.inside.milliseconds % 86400000)))

pub returns : goal.returns
returns c =
    let date = c.date_of-date.result in
    let cases = rw c.unwrap-text.ensures at c.from_utf8.ensures.cases in
    IfOk-weaker c.from_str.result _ _ (λ text e. record {
      date = date;
      day = subst (λ m. epoch_day date ≡ pos (m / 86400000)) c.moment.view_is c.date_of-date.ensures;
      spelled = e ∙ cases.0 ∙ c.bytes_on-bytes.ensures
          ∙ ap (λ m. stamp_text (unsigned_abs date.year) date.month date.day (m % 86400000)) c.moment.view_is;
    }) c.from_str.ensures.ok
