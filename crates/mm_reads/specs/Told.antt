-- What the reads tell of a package, and of the rows that they read it from.
use Rattle.std.specs.Prelude.{◌≡◌, ℕ, List, Option, Some, None, MatchOption, ⊤}
use Rattle.std.specs.declared.vec.Vec.{Vec}
use Rattle.sqlite.specs.declared.types.Value.TheVariants.{Int, Text as Words}
use Rattle.sqlite.specs.Order.{Row, column}
use Rattle.mm_definitions.specs.Package.{AttributeRow, Medium}
use Rattle.mm_store.specs.Rows.{MediumRow}
use Rattle.mm_definitions.specs.declared.entries.Media.{Media}
use Rattle.mm_definitions.specs.declared.entries.Row.{Row as RowTold}

-- the bytes of an entry are told, or that there is no entry
abbrev pub TellsBytes : {A : Type 0} → Option (List ℕ) → Option (Vec ℕ A) → Type 0
TellsBytes entry found = MatchOption found (entry ≡ None) (λ bytes. entry ≡ Some bytes.items)

-- a medium and an attribute row, as they are told
abbrev pub shown_medium : Media → Medium
shown_medium m = record { bytes = m.bytes; content_type = m.content_type }

-- an attribute row that is told, as the package has it
abbrev pub shown_row : RowTold → AttributeRow
shown_row r = record { title = r.title; note = r.note; amount = r.amount }

-- what is told of the first row of a query: nothing where it has none
abbrev pub GivesFirst : {T : Type 0} → (Row → T → Type 0) → Option T → Option Row → Type 0
GivesFirst Shows None first = first ≡ None
GivesFirst Shows (Some it) first = (row : Row) × (first ≡ Some row) × Shows row it

-- the row shows the id of the blob that a medium names, and its content type
pub record ShowsMedium (row : Row) (m : MediumRow) : Type 0 where
  pub blob : column row 0 ≡ Int m.blob
  pub content_type : column row 1 ≡ Words m.content_type

-- a row that was asked for by its key shows the medium, and there is none where there is no medium
abbrev pub IsMediumRow : Option MediumRow → Option Row → Type 0
IsMediumRow None None = ⊤
IsMediumRow (Some m) (Some row) = ShowsMedium row m
IsMediumRow _ _ = ⊥

-- the row shows title, note and amount of an attribute row
pub record ShowsRow (row : Row) (r : RowTold) : Type 0 where
  pub title : column row 0 ≡ Words r.title
  pub note : column row 1 ≡ Words r.note
  pub amount : column row 2 ≡ Int r.amount
