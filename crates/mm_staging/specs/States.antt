-- The last piece of an edition.
use Rattle.std.specs.Prelude.{◌≡◌, ℕ, ℤ, pos, ◌≤ℤ◌, Option, Some, None}
use Rattle.sqlite.specs.declared.types.Value.TheVariants.{Int}
use Rattle.sqlite.specs.Order.{Row, column}
use Rattle.mm_definitions.specs.Keys.{Text, piece}
use Rattle.mm_definitions.specs.Package.{PiecesPart}
use Rattle.mm_definitions.specs.Parts.{Stands}

-- the edition has no piece, or this is the highest number of one
abbrev pub IsLast : PiecesPart → Text → Option ℕ → Type 0
IsLast pieces edition None = (number : ℤ) → ¬ (Stands pieces (piece edition number))
IsLast pieces edition (Some last) = Stands pieces (piece edition (pos last))
    × ((number : ℤ) → Stands pieces (piece edition number) → number ≤ℤ pos last)

-- the row has this number in its first column
abbrev pub GivesPieceNumber : Option ℕ → Option Row → Type 0
GivesPieceNumber None first = first ≡ None
GivesPieceNumber (Some number) first = (row : Row) × (first ≡ Some row) × (column row 0 ≡ Int (pos number))
