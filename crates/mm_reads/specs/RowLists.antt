-- The rows of an attribute table from an id on, and what the rows of a query show that they are read from.
use Rattle.std.specs.Prelude.{◌≡◌, ◌↔◌, ℕ, ◌<◌, ℤ, Bool, true, false, ◌&&◌, List, [], ◌∷◌, ◌++◌, map, take, length}
use Rattle.std.specs.Prelude.{Option, Result, MatchResult, MatchOption, IsTrue}
use Rattle.std.specs.Ordering.{is_ge, int_cmp}
use Rattle.std.specs.FinMap.{entries, retain_keys}
use Rattle.std.specs.declared.vec.Vec.{Vec}
use Rattle.sqlite.specs.declared.types.Value.TheVariants.{Int, Text as Words}
use Rattle.sqlite.specs.Order.{Row, column}
use Rattle.mm_definitions.specs.Keys.{Text, same_text, Item}
use Rattle.mm_definitions.specs.Package.{Package, AttributeRow, has_kind}
use Rattle.mm_definitions.specs.declared.answers.Fault.{Fault}
use Rattle.mm_definitions.specs.declared.commands.Kind.TheVariants.{Attributes}
use Rattle.mm_definitions.specs.declared.entries.Row.{Row as RowTold}
use Rattle.mm_definitions.specs.Faults.{IsStoreFault}
use Rattle.mm_reads.specs.Told.{shown_row}

-- ---- the list

-- how many rows are listed at most
abbrev pub MostRows : ℕ
MostRows = 1000

-- the table is an attribute table
abbrev pub lists_rows : Package → Text → Bool
lists_rows p table = has_kind p.kinds table Attributes

-- the row is one of this table, and its id is this one or a greater one
abbrev pub is_from_id : Text → ℤ → Item → Bool
is_from_id table first k = same_text k.table table && is_ge (int_cmp k.id first)

-- the rows of the table from this id on, by rising id
abbrev pub rows_on : Package → Text → ℤ → List (Item × AttributeRow)
rows_on p table first = entries (retain_keys p.rows (is_from_id table first))

-- a row of the package with its id
abbrev pub numbered : Item × AttributeRow → ℤ × AttributeRow
numbered e = (e.0.id, e.1)

-- the same of a row that is told
abbrev pub numbered_told : ℤ × RowTold → ℤ × AttributeRow
numbered_told e = (e.0, shown_row e.1)

-- the first rows of the table from this id on, each with its id
abbrev pub first_rows : Package → Text → ℤ → List (ℤ × AttributeRow)
first_rows p table first = take MostRows (map numbered (rows_on p table first))

-- the entries are those rows, in their order
abbrev pub ListsRows : Package → Text → ℤ → List (ℤ × RowTold) → Type 0
ListsRows p table first items = map numbered_told items ≡ first_rows p table first

-- None exactly where there is no attribute table of this name
abbrev pub TellsRows : {A : Type 0} → Package → Text → ℤ → Option (Vec (ℤ × RowTold) A) → Type 0
TellsRows p table first found = MatchOption found (lists_rows p table ≡ false)
    (λ items. (lists_rows p table ≡ true) × ListsRows p table first items.items)

-- ---- the rows

-- the row shows id, title, note and amount
pub record ShowsNumbered (row : Row) (e : ℤ × RowTold) : Type 0 where
  pub id : column row 0 ≡ Int e.0
  pub title : column row 1 ≡ Words e.1.title
  pub note : column row 2 ≡ Words e.1.note
  pub amount : column row 3 ≡ Int e.1.amount

-- one more row is gathered, which the row shows; the walk goes on where there is room for another
abbrev pub GathersRows : List (ℤ × RowTold) → Row → List (ℤ × RowTold) → Result Bool Fault → Type 0
GathersRows old row new result = MatchResult result (λ goes. (IsTrue goes ↔ length new < MostRows) × (e : ℤ × RowTold)
    × ShowsNumbered row e × (new ≡ old ++ e ∷ [])) IsStoreFault
