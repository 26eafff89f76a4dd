-- What the laws of this crate speak of.
use Rattle.std.specs.Prelude.{◌≡◌, ◌≢◌, ℕ, List, [], ◌∷◌, Ok, Bool, ◌&&◌, ◌||◌, ◌==◌, nat_le, is_some, IsTrue, true}
use Rattle.std.specs.Prelude.{false, ◌++◌, ◌⊎◌, Some}
use Rattle.std.specs.List.{list_any}
use Rattle.mm_definitions.specs.declared.refusals.TheConstants.{NO_SUCH_RECORD, OUT_OF_LIMITS, NOT_A_NAME}
use Rattle.mm_definitions.specs.Keys.{Text, same_text, PieceKey}
use Rattle.mm_definitions.specs.Bounds.{Profile, IsMoment}
use Rattle.mm_definitions.specs.Parts.{Each, Has, at_value}
use Rattle.mm_definitions.specs.Package.{Package, Contents, ContentsPart, PieceRow, open_state, published_state}
use Rattle.mm_definitions.specs.Pieces.{row_piece}
use Rattle.mm_definitions.specs.Within.{IsWithin}
use Rattle.mm_definitions.specs.Stamp.{stamp}
use Rattle.mm_definitions.specs.Conditions.{least, piece_reasons, pieces_of}
use Rattle.mm_definitions.specs.Editions.{trial, edition_trial, closed}
use Rattle.mm_definitions.specs.Runs.{Call}
use Rattle.mm_definitions.specs.Refusals.{Refusal}
use Rattle.mm_definitions.specs.declared.commands.Command.{Command}
use Rattle.mm_definitions.specs.declared.commands.Command.TheVariants as commands
use Rattle.mm_definitions.specs.declared.commands.Piece.{Piece}
use Rattle.mm_definitions.specs.declared.commands.Piece.TheVariants as pieces

-- ---- lists
-- every command of the list is within the limits, and every moment
abbrev pub AllWithin : Profile → List Call → Type 0
AllWithin profile [] = Unit {0}
AllWithin profile (c ∷ cs) = (IsWithin profile c.command × IsMoment c.moment) × AllWithin profile cs

-- ---- editions
-- The edition is published and holds no pieces.
pub record IsClosed (edition : Text) (p : Package) : Type 0 where
  pub published : Has p.editions edition published_state
  pub no_pieces : Each p.pieces (λ k _. k.edition ≢ edition)

-- The edition is open and holds no pieces.
pub record IsNewEdition (name : Text) (p : Package) : Type 0 where
  pub stands_open : Has p.editions name open_state
  pub no_pieces : Each p.pieces (λ k _. k.edition ≢ name)

-- Every piece was accepted on what the earlier ones gave, and then the edition was closed.
pub record IsPublished (p : Package) (edition : Text) (moment : ℕ) (next : Package) : Type 0 where
  pub edited : Package
  pub accepted : edition_trial p edition (stamp moment) ≡ Ok edited
  pub next_is : next ≡ closed edition edited
  pub closes : IsClosed edition next

-- A piece that is refused on what the pieces before it gave, all of which were accepted.
pub record FirstRefused (p : Package) (edition : Text) : Type 0 where
  pub before : List (PieceKey × PieceRow)
  pub after : List (PieceKey × PieceRow)
  pub key : PieceKey
  pub row : PieceRow
  pub are : pieces_of p edition ≡ before ++ (key, row) ∷ after
  pub middle : Package
  pub accepted : trial before p [] ≡ Ok middle
  pub piece : Piece
  pub spells : row_piece row ≡ Some piece
  pub reason : ℕ
  pub refused : least (piece_reasons middle piece) ≡ Some reason

-- ---- refusals
-- the numbers of the reasons for which a command is refused
abbrev pub is_reason_number : ℕ → Bool
is_reason_number n = (nat_le 20 n && nat_le n 27) || (nat_le 30 n && nat_le n 35) || (nat_le 40 n && nat_le n 48)
    || (nat_le 50 n && nat_le n 55)

-- The number is one of these, and a piece is named exactly with 53.
pub record IsNumberedRefusal (r : Refusal) : Type 0 where
  pub known : IsTrue (is_reason_number r.number)
  pub names_a_piece : is_some r.piece ≡ (r.number == 53)

-- ---- last_change
-- whether a piece sets last_change of the table
abbrev pub piece_changes : Piece → Text → Bool
piece_changes (pieces.Tile table place bytes) t = same_text t table
piece_changes (pieces.TileDrop table place) t = same_text t table
piece_changes (pieces.Row table id title note amount) t = same_text t table
piece_changes (pieces.RowDrop table id) t = same_text t table
piece_changes (pieces.Media table id content_type bytes) t = same_text t table
piece_changes (pieces.MediaDrop table id) t = same_text t table
piece_changes (pieces.Matrix table zoom matrix) t = same_text t table
piece_changes _ t = false

-- whether the command, other than by publishing, sets last_change of the table
abbrev pub changes : Command → Text → Bool
changes (commands.Pyramid table identifier srs min_x min_y max_x max_y step) t = same_text t table
changes (commands.Table table kind identifier) t = same_text t table
changes (commands.Edit q) t = piece_changes q t
changes _ t = false

-- whether one of these pieces sets last_change of the table
abbrev pub some_piece_changes : List (PieceKey × PieceRow) → Text → Bool
some_piece_changes es t = list_any (λ e. at_value (λ q. piece_changes q t) (row_piece e.1)) es

-- publishing sets it of each table that a piece names so
abbrev pub sets_last_change : Package → Command → Text → Bool
sets_last_change p (commands.Publish edition) t = some_piece_changes (pieces_of p edition) t
sets_last_change p c t = changes c t

-- The table's row has this stamp where it is set, and is as it was where it is not.
abbrev pub IsSetOrKept : Bool → Text → ContentsPart → Text → Contents → Type 0
IsSetOrKept is_set stamp before t row = ((is_set ≡ true) × (row.last_change ≡ stamp))
    ⊎ ((is_set ≡ false) × Has before t row)

-- ---- records
-- the numbers that may hold against the fields of a record
abbrev pub IsReadingNumber : ℕ → Type 0
IsReadingNumber n = (n ≡ NO_SUCH_RECORD) ⊎ (n ≡ OUT_OF_LIMITS) ⊎ (n ≡ NOT_A_NAME)
