-- Publishing: the pieces of an edition as commands, in rising number.
use Rattle.std.specs.Prelude.{ℕ, List, [], ◌∷◌, Option, Some, None, Result, Ok, Err, unsigned_abs}
use Rattle.std.specs.FinMap.{insert, retain_keys}
use Rattle.mm_definitions.specs.Keys.{Text, PieceKey}
use Rattle.mm_definitions.specs.Package.{Package, PieceRow, published_state}
use Rattle.mm_definitions.specs.Pieces.{row_piece}
use Rattle.mm_definitions.specs.Conditions.{least, piece_reasons, pieces_of}
use Rattle.mm_definitions.specs.Effects.{piece_effect, is_other}
use Rattle.mm_definitions.specs.declared.commands.Piece.{Piece}

-- a piece's number and its refusal
abbrev pub PieceRefusal : Type 0
PieceRefusal = ℕ × ℕ

-- what a piece gives, by its least reason
abbrev pub decided : Package → ℕ → Piece → Text → Option ℕ → Result Package PieceRefusal
decided p number q stamp None = Ok (piece_effect p q stamp)
decided p number q stamp (Some reason) = Err (number, reason)

-- A piece is taken as its command. A row that spells none stands in no package of the rules, and is passed over.
abbrev pub piece_trial : Package → ℕ → Text → Option Piece → Result Package PieceRefusal
piece_trial p number stamp None = Ok p
piece_trial p number stamp (Some q) = decided p number q stamp (least (piece_reasons p q))

-- the rest of the pieces, on the package that one gave; after a refusal they are not tried
abbrev pub after_trial : Result Package PieceRefusal → (Package → Result Package PieceRefusal)
    → Result Package PieceRefusal
after_trial (Ok p) rest = rest p
after_trial (Err refusal) rest = Err refusal

-- each on the package that the earlier ones gave, to the first that is refused
abbrev pub trial : List (PieceKey × PieceRow) → Package → Text → Result Package PieceRefusal
trial [] p stamp = Ok p
trial (e ∷ es) p stamp =
    after_trial (piece_trial p (unsigned_abs e.0.number) stamp (row_piece e.1)) (λ next. trial es next stamp)

-- what the edition's pieces give in rising number at this stamp, or the first refusal; the edition is not closed yet
abbrev pub edition_trial : Package → Text → Text → Result Package PieceRefusal
edition_trial p edition stamp = trial (pieces_of p edition) p stamp

-- the edition is published and holds no pieces
abbrev pub closed : Text → Package → Package
closed edition p = record p {
  editions = insert p.editions edition published_state;
  pieces = retain_keys p.pieces (λ k. is_other edition k.edition);
}
