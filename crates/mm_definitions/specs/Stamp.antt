-- The text of a moment, counted in milliseconds from 1970-01-01T00:00:00Z.
use Rattle.std.specs.Prelude.{slice_index, ◌≡◌, ℕ, zero, suc, ◌+◌, ◌-◌, ◌*◌, ◌/◌, ◌%◌, nat_lt, pos, List, [], ◌∷◌, ◌++◌}
use Rattle.std.specs.Prelude.{codes, if◌then◌else◌, unsigned_abs}
use Rattle.mm_definitions.specs.Bounds.{IsMoment}
use Rattle.jiff.specs.Types.{Date}
use Rattle.jiff.specs.Words.{epoch_day, days_in_year, days_in_month}

-- the last two, three and four digits of a number
abbrev pub two_digits : ℕ → List ℕ
two_digits n = (48 + n / 10 % 10) ∷ (48 + n % 10) ∷ []

-- the last three, with leading zeros
abbrev pub three_digits : ℕ → List ℕ
three_digits n = (48 + n / 100 % 10) ∷ two_digits n

-- the last four, with leading zeros
abbrev pub four_digits : ℕ → List ℕ
four_digits n = (48 + n / 1000 % 10) ∷ three_digits n

-- the text of a date, and of a time of that day in milliseconds
abbrev pub stamp_text : ℕ → ℕ → ℕ → ℕ → List ℕ
stamp_text year month day time =
    four_digits year ++ codes "-" ++ two_digits month ++ codes "-" ++ two_digits day
    ++ codes "T" ++ two_digits (time / 3600000) ++ codes ":" ++ two_digits (time / 60000 % 60) ++ codes ":" ++ two_digits (time / 1000 % 60)
    ++ codes "." ++ three_digits (time % 1000) ++ codes "Z"

-- The text is that of the civil date whose day number is the moment's, and of the rest as the time of that day.
pub record IsStamp (moment : ℕ) (text : List ℕ) : Type 0 where
  pub date : Date
  pub day : epoch_day date ≡ pos (moment / 86400000)
  pub spelled : text ≡ stamp_text (unsigned_abs date.year) date.month date.day (moment % 86400000)

-- The same as a function, which counts whole years from 1970 and then whole months.
-- the year or month in which a day lies, and the day's place in it from 0
pub record Place : Type 0 where
  pub unit : ℕ
  pub day : ℕ

-- the year in which a day lies that is counted from the start of this one, where it is at most n years on
abbrev pub year_of : ℕ → ℕ → ℕ → Place
year_of zero year day = record { unit = year; day = day }
year_of (suc n) year day = if nat_lt day (days_in_year (pos year)) then record { unit = year; day = day } else
    year_of n (suc year) (day - days_in_year (pos year))

-- the month in which a day of that year lies, counted from the start of this one, where it is at most n months on
abbrev pub month_of : ℕ → ℕ → ℕ → ℕ → Place
month_of zero year month day = record { unit = month; day = day }
month_of (suc n) year month day = if nat_lt day (days_in_month (pos year) month) then
    record { unit = month; day = day } else month_of n year (suc month) (day - days_in_month (pos year) month)

-- the text of the day at that place in a month of that year, and of a time of that day in milliseconds
abbrev pub stamp_in : Place → Place → ℕ → List ℕ
stamp_in year month time = stamp_text year.unit month.unit (month.day + 1) time

-- the same of the day at that place in a year
abbrev pub stamp_in_year : Place → ℕ → List ℕ
stamp_in_year year time = stamp_in year (month_of 12 year.unit 1 year.day) time

-- the text of a moment, up to the end of the year 9999
unfoldable pub stamp : ℕ → List ℕ
stamp moment = stamp_in_year (year_of 8030 1970 (moment / 86400000)) (moment % 86400000)

-- The parts that a stamp shows, read back from its bytes. Of other bytes they are some numbers.
abbrev pub digit_at : List ℕ → ℕ → ℕ
digit_at text at = (slice_index text at + 2) % 10

-- the year, of four digits
abbrev pub year_in : List ℕ → ℕ
year_in t = digit_at t 0 * 1000 + digit_at t 1 * 100 + digit_at t 2 * 10 + digit_at t 3

-- the number of the two digits from a place on, as a month, a day or an hour
abbrev pub pair_at : List ℕ → ℕ → ℕ
pair_at t at = digit_at t at * 10 + digit_at t (at + 1)

-- the time of the day, in milliseconds
abbrev pub time_in : List ℕ → ℕ
time_in t = pair_at t 11 * 3600000 + pair_at t 14 * 60000 + pair_at t 17 * 1000 + digit_at t 20 * 100 + pair_at t 21

-- the text is the stamp of a moment within the limits
abbrev pub IsSomeStamp : List ℕ → Type 0
IsSomeStamp text = (m : ℕ) × IsMoment m × IsStamp m text
