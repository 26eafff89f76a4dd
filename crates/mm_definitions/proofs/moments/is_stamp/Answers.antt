use Rattle.std.proofs.Common.{◌≡◌, ◌<◌, pos, true, false, sym, ap, subst, ◌∙◌, rules, unsigned_abs}
use Rattle.std.proofs.lemmas.Slice.Eq.{bytes_eq-Decides}
use Rattle.jiff.specs.Words.{IsYmd}
use Rattle.mm_definitions.specs.Stamp.{stamp_text, year_in, pair_at, time_in}
use Rattle.mm_definitions.proofs.StampBack.{in_time, shows_again, is_some, day_number}
use Rattle.mm_definitions.proofs.moments.is_stamp.Goals as goal

pub returns-then-not-is_from_1970 : goal.returns-then-not-is_from_1970
returns-then-not-is_from_1970 c =
    let d = c.in-Some.date in
    let ymd : IsYmd (pos (year_in c.args.text.now)) (pos (pair_at c.args.text.now 5)) (pos (pair_at c.args.text.now 8))
    d =
    subst (λ t. IsYmd (pos (year_in t)) (pos (pair_at t 5)) (pos (pair_at t 8)) d) c.as_bytes-bytes.ensures.value
    c.in-Some.ensures.value in (
      λ e. absurd (let f : false ≡ true = e in cc),
      λ it. sym c.if-not-is_from_1970.true
          ∙ c.is_from_1970.ensures.1 (in_time c.args.text.now d ymd it),
    )

pub returns : goal.returns
returns c =
    let d = c.in-Some.date in
    let text = c.args.text.now in
    let same = c.as_bytes-bytes.ensures.value in
    let ymd : IsYmd (pos (year_in text)) (pos (pair_at text 5)) (pos (pair_at text 8)) d =
    subst (λ t. IsYmd (pos (year_in t)) (pos (pair_at t 5)) (pos (pair_at t 8)) d) same c.in-Some.ensures.value in
    let time : c.time_in-time.result ≡ time_in text = c.time_in-time.ensures ∙ ap time_in same in
    let low : time_in text < 86400000 = (let h = c.if-time-ge86400000.false in search rules) in
    let decides = bytes_eq-Decides c.as_bytes-bytes.result.now c.bytes_on-shown.result in
    let shown : c.bytes_on-shown.result ≡ stamp_text (unsigned_abs d.year) d.month d.day (time_in text) =
    c.bytes_on-shown.ensures ∙ ap (stamp_text (unsigned_abs d.year) d.month d.day) time in
    let day = day_number d (c.is_from_1970.ensures.0 c.if-not-is_from_1970.false) in (
      λ e. is_some text d ymd day.0 day.1 day.2 low (sym same ∙ decides.0 (sym c.eq.ensures ∙ e) ∙ shown),
      λ it. c.eq.ensures ∙ decides.1 (same ∙ shows_again text d ymd it ∙ sym shown),
    )
