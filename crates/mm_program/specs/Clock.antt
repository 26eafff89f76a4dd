-- The moment of a time of the clock.
use Rattle.std.specs.Prelude.{◌≡◌, ◌<◌, ◌/◌, ℕ}
use Rattle.mm_program.specs.declared.clock.Now.{Now}
use Rattle.mm_program.specs.declared.clock.Now.TheVariants as now

-- its whole milliseconds, where they are within the limits of a moment
abbrev pub IsNow : ℕ → Now → Type 0
IsNow nanoseconds (now.At moment) = moment ≡ nanoseconds / 1000000
IsNow nanoseconds now.Outside = 253402300799999 < nanoseconds / 1000000
IsNow nanoseconds now.Unread = ⊥
