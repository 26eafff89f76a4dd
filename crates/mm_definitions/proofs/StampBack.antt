-- A stamp read back.
use Rattle.std.proofs.Common.{◌≡◌, inl, ℕ, ◌+◌, ◌*◌, ◌/◌, ◌%◌, ◌<◌, ◌≤◌, ℤ, pos, ◌≤ℤ◌, ◌<ℤ◌, List}
use Rattle.std.proofs.Common.{refl, sym, ap, subst}
use Rattle.std.proofs.Common.{◌∙◌, arith, unsigned_abs, rules}
use Rattle.std.proofs.lemmas.Int.{ints}
use Rattle.std.proofs.lemmas.Cmp.{int_ranked}
use Rattle.std.specs.Ordering.{int_cmp}
use Rattle.std.specs.declared.cmp.Ordering.{Ordering}
use Rattle.std.specs.declared.cmp.Ordering.TheVariants.{Less, Equal, Greater}
use Rattle.jiff.specs.Types.{Date}
use Rattle.jiff.specs.Words.{epoch_day, IsYmd}
use Rattle.jiff.proofs.Family.{epoch_day-lt, epoch_day_range}
use Rattle.jiff_core.specs.Calendar.{days_from_civil, days_in_month}
use Rattle.jiff_core.proofs.CalendarLemmas.{days_in_month_bounds}
use Rattle.mm_definitions.specs.Stamp.{IsStamp, IsSomeStamp, stamp_text, year_in, pair_at, time_in}
use Rattle.mm_definitions.proofs.Dates.{start_is}
use Rattle.mm_definitions.proofs.Integers.{natural, same_pos}

start : Date
start = record {
  year = pos 1970;
  month = 1;
  day = 1;
  year_in = search rules;
  month_in = search rules;
  day_in = search rules;
}

from_1970 : (d : Date) → pos 0 ≤ℤ epoch_day d → pos 1970 ≤ℤ d.year
unfolding start
from_1970 d h =
    let low : d.year <ℤ pos 1970 → ⊥ = λ early. let e = epoch_day-lt d start (inl early) in let z =
    start_is start (refl, refl, refl) in omega (arith, ints, e, z, h) in
    not_below d.year low
  where
    not_below : (y : ℤ) → (y <ℤ pos 1970 → ⊥) → pos 1970 ≤ℤ y
    not_below y low = go (int_cmp y (pos 1970)) refl
      where
        go : (o : Ordering) → o ≡ int_cmp y (pos 1970) → pos 1970 ≤ℤ y
        go Less is = absurd (low (int_ranked y (pos 1970) Less is))
        go Equal is = let e : y ≡ pos 1970 = int_ranked y (pos 1970) Equal is in omega (arith, ints, e)
        go Greater is = let e : pos 1970 <ℤ y = int_ranked y (pos 1970) Greater is in omega (arith, ints, e)

two_back : (n : ℕ) → n < 100 → (48 + n / 10 % 10 + 2) % 10 * 10 + (48 + n % 10 + 2) % 10 ≡ n
two_back n h = omega (arith, h)

four_back : (n : ℕ) → n < 10000
    → (48 + n / 1000 % 10 + 2) % 10 * 1000 + (48 + n / 100 % 10 + 2) % 10 * 100 + (48 + n / 10 % 10 + 2) % 10 *
    10 + (48 + n % 10 + 2) % 10 ≡ n
four_back n h = omega (arith, h)

three_back : (n : ℕ) → n < 1000
    → (48 + n / 100 % 10 + 2) % 10 * 100 + ((48 + n / 10 % 10 + 2) % 10 * 10 + (48 + n % 10 + 2) % 10) ≡ n
three_back n h = omega (arith, h)

time_parts : (t : ℕ) → t < 86400000 → t / 3600000 * 3600000 + t / 60000 % 60 * 60000 + t / 1000 % 60 * 1000 + t % 1000
    ≡ t
time_parts t h = omega (arith, h)

summed : (a b c d e h m s ms t : ℕ) → a ≡ h → b ≡ m → c ≡ s → d + e ≡ ms → h * 3600000 + m * 60000 + s * 1000 + ms ≡ t
    → a * 3600000 + b * 60000 + c * 1000 + d + e ≡ t
summed a b c d e h m s ms t p q r u v = omega (arith, p, q, r, u, v)

hours_low : (t : ℕ) → t < 86400000 → t / 3600000 < 100
hours_low t h = omega (arith, h)

sixty_low : (n : ℕ) → n % 60 < 100
sixty_low n = omega arith

thousand_low : (n : ℕ) → n % 1000 < 1000
thousand_low n = omega arith

pub read_back : (y mo d t : ℕ) → y < 10000 → mo < 100 → d < 100 → t < 86400000
    → (year_in (stamp_text y mo d t) ≡ y) × (pair_at (stamp_text y mo d t) 5 ≡ mo)
    × (pair_at (stamp_text y mo d t) 8 ≡ d) × (time_in (stamp_text y mo d t) ≡ t)
read_back y mo d t hy hm hd ht = (
  four_back y hy,
  two_back mo hm,
  two_back d hd,
  summed _ _ _ _ _ (t / 3600000) (t / 60000 % 60) (t / 1000 % 60) (t % 1000) t
      (two_back (t / 3600000) (hours_low t ht)) (two_back (t / 60000 % 60) (sixty_low (t / 60000)))
      (two_back (t / 1000 % 60) (sixty_low (t / 1000))) (three_back (t % 1000) (thousand_low t)) (time_parts t ht),
)

abs_pos : (z : ℤ) → pos 1970 ≤ℤ z → pos (unsigned_abs z) ≡ z
abs_pos z h = omega (arith, ints, h)

abs_low : (z : ℤ) → z ≤ℤ pos 9999 → pos 1970 ≤ℤ z → unsigned_abs z < 10000
abs_low z h k = omega (arith, ints, h, k)

pub part_low : (m : ℕ) → m % 86400000 < 86400000
part_low m = omega arith

below_month : (n : ℕ) → n ≤ 12 → n < 100
below_month n h = omega (arith, h)

below_day : (n k : ℕ) → n ≤ k → k ≤ 31 → n < 100
below_day n k h l = omega (arith, h, l)

-- what the text of a stamp shows
pub shown_parts : (text : List ℕ) (m : ℕ) (st : IsStamp m text)
    → IsYmd (pos (year_in text)) (pos (pair_at text 5)) (pos (pair_at text 8)) st.date × (time_in text ≡ m % 86400000)
    × (pos 1970 ≤ℤ st.date.year)
shown_parts text m st =
    let d = st.date in
    let low = from_1970 d (subst (λ z. pos 0 ≤ℤ z) (sym st.day) (search rules)) in
    let r = read_back (unsigned_abs d.year) d.month d.day (m % 86400000) (abs_low d.year d.year_in.1 low)
    (below_month d.month d.month_in.1) (below_day d.day (days_in_month d.year d.month) d.day_in.1
    (days_in_month_bounds d.year d.month).0) (part_low m) in
    let s = st.spelled in (
      (
        sym (abs_pos d.year low) ∙ ap pos (sym (ap year_in s ∙ r.0)),
        ap pos (sym (ap (λ x. pair_at x 5) s ∙ r.1)),
        ap
            pos (sym (ap (λ x. pair_at x 8) s ∙ r.2)),
      ),
      ap time_in s ∙ r.3,
      low,
    )

pub same_day : (y m d : ℤ) (a b : Date) → IsYmd y m d a → IsYmd y m d b → (a.year ≡ b.year) × (a.month ≡ b.month)
    × (a.day ≡ b.day)
same_day y m d a b p q = (p.0 ∙ sym q.0, same_pos _ _ (p.1 ∙ sym q.1), same_pos _ _ (p.2 ∙ sym q.2))

pub day_of : (a b : Date) → (a.year ≡ b.year) × (a.month ≡ b.month) × (a.day ≡ b.day) → epoch_day a ≡ epoch_day b
day_of a b e = ap (λ y. days_from_civil y a.month a.day) e.0 ∙ ap (λ m. days_from_civil b.year m a.day) e.1
    ∙ ap (days_from_civil b.year b.month) e.2

pub text_of : (a b : Date) (t : ℕ) → (a.year ≡ b.year) × (a.month ≡ b.month) × (a.day ≡ b.day)
    → stamp_text (unsigned_abs a.year) a.month a.day t ≡ stamp_text (unsigned_abs b.year) b.month b.day t
text_of a b t e = ap (λ y. stamp_text (unsigned_abs y) a.month a.day t) e.0
    ∙ ap (λ m. stamp_text (unsigned_abs b.year) m a.day t) e.1
    ∙ ap (λ d. stamp_text (unsigned_abs b.year) b.month d t) e.2

-- a date that the text shows is that of the stamp
module _ (text : List ℕ) (d : Date) (ymd : IsYmd (pos (year_in text)) (pos (pair_at text 5)) (pos (pair_at text 8)) d)
  where
    pub in_time : IsSomeStamp text → pos 0 ≤ℤ epoch_day d
    in_time (m, low, st) =
        let it = shown_parts text m st in
        subst (λ z. pos 0 ≤ℤ z) (sym (day_of d st.date (same_day _ _ _ d st.date ymd it.0) ∙ st.day)) (search rules)

    pub shows_again : IsSomeStamp text → text ≡ stamp_text (unsigned_abs d.year) d.month d.day (time_in text)
    shows_again (m, low, st) =
        let it = shown_parts text m st in
        st.spelled ∙ ap (stamp_text (unsigned_abs st.date.year) st.date.month st.date.day) (sym it.1)
        ∙ text_of st.date d (time_in text) (same_day _ _ _ st.date d it.0 ymd)

    pub is_some : (day : ℕ) → epoch_day d ≡ pos day → day ≤ 2932896 → time_in text < 86400000
        → text ≡ stamp_text (unsigned_abs d.year) d.month d.day (time_in text) → IsSomeStamp text
    is_some day is high low e = (
      day * 86400000 + time_in text,
      moment_low day (time_in text) high low,
      record {
        date = d;
        day = is ∙ ap pos (sym (quotient day (time_in text) low));
        spelled = e ∙ ap (stamp_text (unsigned_abs d.year) d.month d.day) (sym (remainder day (time_in text) low));
      },
    )
      where
        moment_low : (day t : ℕ) → day ≤ 2932896 → t < 86400000 → day * 86400000 + t ≤ 253402300799999
        moment_low day t h k = omega (arith, h, k)

        quotient : (day t : ℕ) → t < 86400000 → (day * 86400000 + t) / 86400000 ≡ day
        quotient day t k = omega (arith, k)

        remainder : (day t : ℕ) → t < 86400000 → (day * 86400000 + t) % 86400000 ≡ t
        remainder day t k = omega (arith, k)

pub day_number : (d : Date) → pos 0 ≤ℤ epoch_day d → (day : ℕ) × (epoch_day d ≡ pos day) × (day ≤ 2932896)
day_number d h = let r = epoch_day_range d in
    (unsigned_abs (epoch_day d), natural (epoch_day d) h, low (epoch_day d) h r.1)
  where
    low : (z : ℤ) → pos 0 ≤ℤ z → z ≤ℤ pos 2932896 → unsigned_abs z ≤ 2932896
    low z h k = omega (arith, ints, h, k)
