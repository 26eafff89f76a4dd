-- Which number a piece can be staged under next.
use Rattle.std.specs.Prelude.{◌≡◌, ◌≤ℤ◌, ◌⊎◌, ℤ, pos, ◌-ℤ◌, true}
use Rattle.std.specs.FinMap.{contains_key}
use Rattle.mm_definitions.specs.Keys.{Text, piece}
use Rattle.mm_definitions.specs.Package.{Package}

-- the first number, or one behind a piece that stands
abbrev pub IsNextNumber : Package → Text → ℤ → Type 0
IsNextNumber p edition number = (number ≤ℤ pos 1) ⊎ (contains_key p.pieces (piece edition (number -ℤ pos 1)) ≡ true)
