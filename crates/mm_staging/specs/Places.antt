-- What staging a piece under a number comes to.
use Rattle.std.specs.Prelude.{◌≡◌, ◌≢◌, ◌≤ℤ◌, ◌<ℤ◌, ◌⊎◌, ℤ, pos, ◌-ℤ◌, Some, None, Bool, true, false}
use Rattle.std.specs.FinMap.{get, contains_key}
use Rattle.mm_definitions.specs.declared.refusals.TheConstants.{NOT_THE_NEXT_PIECE, TOO_MANY_PIECES}
use Rattle.mm_definitions.specs.Bounds.{MostPieces}
use Rattle.mm_definitions.specs.Keys.{Text, piece}
use Rattle.mm_definitions.specs.Package.{Package, PieceRow}
use Rattle.mm_definitions.specs.Pieces.{piece_row}
use Rattle.mm_definitions.specs.Conditions.{least, own_reasons}
use Rattle.mm_definitions.specs.declared.commands.Command.TheVariants as commands
use Rattle.mm_definitions.specs.declared.commands.Piece.{Piece}
use Rattle.mm_laws.specs.NextNumber.{IsNextNumber}
use Rattle.mm_staging.specs.declared.staging.Place.{Place}
use Rattle.mm_staging.specs.declared.staging.Place.TheVariants.{Equal, Next, Refused}

-- an equal piece stands there, or the number is free and the next, or the staging is refused
abbrev pub IsPlace : Package → Text → ℤ → Piece → Place → Type 0
IsPlace p edition number q Equal = (least (own_reasons p (commands.Stage edition number q)) ≡ None)
    × (get p.pieces (piece edition number) ≡ Some (piece_row q))
IsPlace p edition number q Next = (least (own_reasons p (commands.Stage edition number q)) ≡ None)
    × (get p.pieces (piece edition number) ≡ None)
IsPlace p edition number q (Refused why) = least (own_reasons p (commands.Stage edition number q)) ≡ Some why

-- a piece is staged where this row stands
abbrev pub IsPlaceAt : PieceRow → PieceRow → Place → Type 0
IsPlaceAt written row Equal = written ≡ row
IsPlaceAt written row Next = ⊥
IsPlaceAt written row (Refused why) = (why ≡ NOT_THE_NEXT_PIECE) × (written ≢ row)

-- Behind means so, and not behind that there is a number before and no piece has it.
pub record TellsBehind (p : Package) (edition : Text) (number : ℤ) (behind : Bool) : Type 0 where
  pub yes : behind ≡ true → (number ≤ℤ pos 1) ⊎ (contains_key p.pieces (piece edition (number -ℤ pos 1)) ≡ true)
  pub no : behind ≡ false → (pos 1 <ℤ number) × (contains_key p.pieces (piece edition (number -ℤ pos 1)) ≡ false)

-- whether a number is one of those that an edition has room for
abbrev pub IsRoom : ℤ → Place → Type 0
IsRoom number Equal = ⊥
IsRoom number Next = number ≤ℤ pos MostPieces
IsRoom number (Refused why) = (why ≡ TOO_MANY_PIECES) × (pos MostPieces <ℤ number)

-- of a number at which no piece stands
abbrev pub IsPlaceBehind : Package → Text → ℤ → Place → Type 0
IsPlaceBehind p edition number Equal = ⊥
IsPlaceBehind p edition number Next = IsNextNumber p edition number × (number ≤ℤ pos MostPieces)
IsPlaceBehind p edition number (Refused why) =
    ((why ≡ TOO_MANY_PIECES) × IsNextNumber p edition number × (pos MostPieces <ℤ number))
    ⊎ ((why ≡ NOT_THE_NEXT_PIECE) × (pos 1 <ℤ number)
    × (contains_key p.pieces (piece edition (number -ℤ pos 1)) ≡ false))
