-- A moment has one stamp, and a stamp is of one moment.
use Rattle.std.proofs.Common.{◌≡◌, ℕ, ◌/◌, ◌%◌, ◌≤◌, ℤ, pos, ◌≤ℤ◌, sym, ◌∙◌, arith}
use Rattle.std.proofs.lemmas.Int.{ints}
use Rattle.jiff.proofs.Family.{epoch_day_injective, epoch_day_range}
use Rattle.jiff.specs.Words.{epoch_day}
use Rattle.mm_definitions.proofs.Integers.{same_pos}
use Rattle.mm_definitions.specs.Keys.{Text}
use Rattle.mm_definitions.specs.Bounds.{IsMoment}
use Rattle.mm_definitions.specs.Stamp.{IsStamp, stamp, year_in, pair_at}
use Rattle.mm_definitions.proofs.StampBack.{text_of, shown_parts, same_day, day_of}
use Rattle.mm_laws.proofs.StampFound.{stamp_is}

pub one_stamp : (moment : ℕ) (text other : Text) → IsStamp moment text → IsStamp moment other → text ≡ other
one_stamp moment text other s t = s.spelled
    ∙ text_of s.date t.date (moment % 86400000) (epoch_day_injective s.date t.date (s.day ∙ sym t.day)) ∙ sym t.spelled

within_days : (moment : ℕ) (z : ℤ) → z ≡ pos (moment / 86400000) → z ≤ℤ pos 2932896 → moment ≤ 253402300799999
within_days moment z e h = let low : moment / 86400000 ≤ 2932896 = omega (arith, ints, e, h) in omega (arith, low)

-- what has a stamp is a moment
pub stamped_moment : (moment : ℕ) (text : Text) → IsStamp moment text → IsMoment moment
stamped_moment moment text s = within_days moment (epoch_day s.date) s.day (epoch_day_range s.date).1

pub stamp_only : (moment : ℕ) (text : Text) → IsStamp moment text → text ≡ stamp moment
stamp_only moment text s = one_stamp moment text (stamp moment) s (stamp_is moment (stamped_moment moment text s))

same_parts : (m n : ℕ) → m / 86400000 ≡ n / 86400000 → m % 86400000 ≡ n % 86400000 → m ≡ n
same_parts m n e f = omega (arith, e, f)

pub one_moment : (m n : ℕ) (text : Text) → IsStamp m text → IsStamp n text → m ≡ n
one_moment m n text s t =
    let a = shown_parts text m s in
    let b = shown_parts text n t in
    let day = day_of s.date t.date (same_day (pos (year_in text)) (pos (pair_at text 5)) (pos (pair_at text 8)) s.date
    t.date a.0 b.0) in
    same_parts m n (same_pos _ _ (sym s.day ∙ day ∙ t.day)) (sym a.1 ∙ b.1)
