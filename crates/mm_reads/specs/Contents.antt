-- The list of the tables of a package, and what the rows show that it is read from.
use Rattle.std.specs.Prelude.{◌≡◌, ℤ, Bool, true, if◌then◌else◌, List, [], ◌∷◌, ◌++◌, map, Option, Some, None, Result}
use Rattle.std.specs.Prelude.{MatchResult}
use Rattle.std.specs.FinMap.{get, entries}
use Rattle.sqlite.specs.declared.types.Value.TheVariants.{Int, Text as Words}
use Rattle.sqlite.specs.Order.{Row, column}
use Rattle.mm_definitions.specs.Keys.{Text}
use Rattle.mm_definitions.specs.Package.{Package, Contents, Box, kind_text, is_pyramid}
use Rattle.mm_definitions.specs.declared.answers.Fault.{Fault}
use Rattle.mm_definitions.specs.declared.commands.Kind.{Kind}
use Rattle.mm_definitions.specs.declared.commands.Kind.TheVariants.{Two, Other, Attributes, Media}
use Rattle.mm_definitions.specs.declared.entries.Entry.{Entry}
use Rattle.mm_definitions.specs.Faults.{IsStoreFault}

-- ---- the list

-- a table, with its kind as the registry writes it, and its reference system and extent
pub record Listed : Type 0 where
  pub table : Text
  pub kind : Option Text
  pub identifier : Text
  pub last_change : Text
  pub place : Option (ℤ × Box)

-- a system and an extent, where all of it stands
abbrev pub placed : Option ℤ → Option ℤ → Option ℤ → Option ℤ → Option ℤ → Option (ℤ × Box)
placed (Some system) (Some min_x) (Some min_y) (Some max_x) (Some max_y) =
    Some (system, record { min_x = min_x; min_y = min_y; max_x = max_x; max_y = max_y })
placed _ _ _ _ _ = None

-- a table as the package has it; only pyramids have a place
abbrev pub entry_told : Package → Text × Contents → Listed
entry_told p (table, c) = record {
  table = table;
  kind = get p.kinds table;
  identifier = c.identifier;
  last_change = c.last_change;
  place = if is_pyramid p.kinds table then placed c.system c.min_x c.min_y c.max_x c.max_y else None;
}

-- a table as it is told, with its kind as the registry writes it
abbrev pub table_told : Entry → Listed
table_told e = record {
  table = e.table;
  kind = Some (kind_text e.kind);
  identifier = e.identifier;
  last_change = e.last_change;
  place = e.place;
}

-- the entries are the tables of the contents, by rising name
abbrev pub ListsTables : Package → List Entry → Type 0
ListsTables p es = map table_told es ≡ map (entry_told p) (entries p.contents)

-- ---- the rows

-- the row shows the reference system and the extent in the columns from 4 on
pub record ShowsPlace (row : Row) (place : ℤ × Box) : Type 0 where
  pub system : column row 4 ≡ Int place.0
  pub min_x : column row 5 ≡ Int place.1.min_x
  pub min_y : column row 6 ≡ Int place.1.min_y
  pub max_x : column row 7 ≡ Int place.1.max_x
  pub max_y : column row 8 ≡ Int place.1.max_y

-- a place is told, and the row shows it
abbrev pub IsShown : Row → Option (ℤ × Box) → Type 0
IsShown row None = ⊥
IsShown row (Some place) = ShowsPlace row place

-- the row of a pyramid shows its place, and tables of other kinds have none
abbrev pub ShowsPlaceOf : Row → Kind → Option (ℤ × Box) → Type 0
ShowsPlaceOf row Two place = IsShown row place
ShowsPlaceOf row Other place = IsShown row place
ShowsPlaceOf row Attributes place = place ≡ None
ShowsPlaceOf row Media place = place ≡ None

-- the row shows a table of the list: name, kind, identifier, last_change and place
pub record ShowsEntry (row : Row) (e : Entry) : Type 0 where
  pub table : column row 0 ≡ Words e.table
  pub kind : column row 1 ≡ Words (kind_text e.kind)
  pub identifier : column row 2 ≡ Words e.identifier
  pub last_change : column row 3 ≡ Words e.last_change
  pub place : ShowsPlaceOf row e.kind e.place

-- one more entry is gathered, which the row shows
abbrev pub GathersTables : List Entry → Row → List Entry → Result Bool Fault → Type 0
GathersTables old row new result = MatchResult result (λ goes. (goes ≡ true) × (e : Entry) × ShowsEntry row e
    × (new ≡ old ++ e ∷ [])) IsStoreFault
