-- The line that a row of a query shows.
use Rattle.std.specs.Prelude.{◌≡◌, ◌⊎◌, ℕ, ◌<◌, pos, List, Some}
use Rattle.sqlite.specs.declared.types.Value.{Value}
use Rattle.sqlite.specs.declared.types.Value.TheVariants.{Int, Text as Words}
use Rattle.sqlite.specs.Order.{Row, column}
use Rattle.mm_definitions.specs.Keys.{Text}
use Rattle.mm_definitions.specs.Package.{open_state, published_state}
use Rattle.mm_reads.specs.Lines.{table_text, open_text, published_text}
use Rattle.mm_reads.specs.Listing.{by_kind}

-- the greatest count that the store tells, at which it also stops
abbrev pub MostCounted : ℕ
MostCounted = 9223372036854775807

-- the column holds this count, which is below the greatest
pub record IsCount (value : Value) (count : ℕ) : Type 0 where
  pub is : value ≡ Int (pos count)
  pub below : count < MostCounted

-- a name, a kind, a time, an identifier, and three counts, of which the kind tells one
pub record ShowsTable (row : Row) (line : List ℕ) : Type 0 where
  pub name : Text
  pub kind : Text
  pub time : Text
  pub identifier : Text
  pub at : ℕ
  pub count : ℕ
  pub name_is : column row 0 ≡ Words name
  pub kind_is : column row 1 ≡ Words kind
  pub time_is : column row 2 ≡ Words time
  pub identifier_is : column row 3 ≡ Words identifier
  pub at_is : by_kind kind 4 5 6 ≡ Some at
  pub count_is : IsCount (column row at) count
  pub line_is : line ≡ table_text name kind count time identifier

-- a name, the state open, and how many pieces the edition has
pub record ShowsOpen (row : Row) (line : List ℕ) : Type 0 where
  pub name : Text
  pub count : ℕ
  pub name_is : column row 0 ≡ Words name
  pub state_is : column row 1 ≡ Words open_state
  pub count_is : IsCount (column row 2) count
  pub line_is : line ≡ open_text name count

-- a name and the state published; the count is not told
pub record ShowsPublished (row : Row) (line : List ℕ) : Type 0 where
  pub name : Text
  pub name_is : column row 0 ≡ Words name
  pub state_is : column row 1 ≡ Words published_state
  pub line_is : line ≡ published_text name

-- a name, a state and a count
abbrev pub ShowsEdition : Row → List ℕ → Type 0
ShowsEdition row line = ShowsOpen row line ⊎ ShowsPublished row line
