-- The editions of a package, each with its pieces in order.
use Rattle.std.specs.Prelude.{◌≡◌, ℕ, pos, ◌+◌, ◌-◌, ◌==◌, length, if◌then◌else◌, List, [], ◌∷◌, Option, Some, None}
use Rattle.std.specs.FinMap.{get}
use Rattle.mm_definitions.specs.Keys.{Text, PieceKey, piece}
use Rattle.mm_definitions.specs.Package.{Package, PieceRow, open_state, published_state}
use Rattle.mm_definitions.specs.Pieces.{piece_row}
use Rattle.mm_definitions.specs.Rules.{IsNumbered}
use Rattle.mm_definitions.specs.declared.commands.Piece.{Piece}

-- an open edition with its pieces, or a published one
pub data Edition : Type 0 where
  Open : List Piece → Edition
  Published : Edition

-- the piece of a number, counted from 1
unfoldable pub numbered : List Piece → ℕ → Option Piece
numbered [] i = None
numbered (q ∷ rest) i = if i == 1 then Some q else numbered rest (i - 1)

-- the edition is open, and these are its pieces in rising number
pub record HasPieces (p : Package) (name : Text) (list : List Piece) : Type 0 where
  pub is_open : get p.editions name ≡ Some open_state
  pub numbers : IsNumbered p.pieces name (length list)
  pub each : (i : ℕ) (q : Piece) → numbered list i ≡ Some q → get p.pieces (piece name (pos i)) ≡ Some (piece_row q)

-- the edition of the name as the package has it, or that it has none
abbrev pub IsEdition : Package → Text → Option Edition → Type 0
IsEdition p name None = get p.editions name ≡ None
IsEdition p name (Some Published) = get p.editions name ≡ Some published_state
IsEdition p name (Some (Open list)) = HasPieces p name list

-- the rows of pieces, numbered from i
unfoldable pub rows_from : Text → ℕ → List Piece → List (PieceKey × PieceRow)
rows_from name i [] = []
rows_from name i (q ∷ rest) = (piece name (pos i), piece_row q) ∷ rows_from name (i + 1) rest
