-- What a statement sees of a database and leaves in it: the rows of the tables of a schema.
use Rattle.std.specs.Prelude.{◌≡◌, ℕ, Bool, true, false, not, ◌&&◌, ◌==◌, if◌then◌else◌, List, [], ◌∷◌, filter, map}
use Rattle.std.specs.Prelude.{Option, Some, None, slice_get, IsTrue}
use Rattle.std.specs.List.{AllByRecursion, list_any, list_all}
use Rattle.std.specs.declared.cmp.Ordering.{Ordering}
use Rattle.std.specs.Ordering.{is_lt}
use Rattle.sqlite_value.specs.declared.keys.Collation.TheVariants.{Binary}
use Rattle.sqlite.specs.Order.{Row, column}
use Rattle.sqlite.specs.Term.{Term, holds}
use Rattle.sqlite.specs.Tree.{Trees, rowid, IsTable}
use Rattle.sqlite.specs.View.{is_int}
use Rattle.sqlite.specs.Schema.{Schema}
use Rattle.sqlite_schema.specs.Rules.{equal}
use Rattle.sqlite_rules.specs.Lists.{Has}
use Rattle.sqlite.specs.Effect.{Database, IsDatabase}
use Rattle.sqlite.specs.State.{State, Shown}

-- a table of the schema has its rows in this tree
abbrev pub is_table : Schema → ℕ → Bool
is_table schema t = list_any (λ table. table.tree == t) schema.tables

-- the trees of the tables alone, without those of the indexes and of the list of objects
abbrev pub tables_of : Schema → Trees → Trees
tables_of schema db t = if is_table schema t then db t else []

-- the rowids are integers, and rise
pub record AreRows (rows : List Row) : Type 0 where
  pub rise : IsTable rows
  pub keyed : AllByRecursion (λ r. IsTrue (is_int (rowid r))) rows

-- so it is in each table of the schema
abbrev pub AreTables : Schema → Trees → Type 0
AreTables schema db = (t : ℕ) → AreRows (tables_of schema db t)

-- the row has these values at these places
abbrev pub has_key : List ℕ → Row → Row → Bool
has_key [] values r = true
has_key (c ∷ places) [] r = true
has_key (c ∷ places) (v ∷ values) r = equal Binary (column r c) v && has_key places values r

-- the row passes WHERE
abbrev pub passes : List Term → Row → Row → Bool
passes terms params r = list_all (holds (params ∷ r ∷ [])) terms

-- the rows that a DELETE leaves: all but those that pass the test
abbrev pub without : (Row → Bool) → List Row → List Row
without test = filter (λ r. not (test r))

-- the rows that an UPDATE leaves: those that pass the test changed, and the others as they were
abbrev pub with_changed : (Row → Bool) → (Row → Row) → List Row → List Row
with_changed test change = map (λ r. if test r then change r else r)

-- each table of the schema is there, and has no row
pub record IsBare (schema : Schema) (db : Database) : Type 0 where
  pub schema_is : db.schema ≡ schema
  pub empty : AllByRecursion (λ t. db.trees t.tree ≡ []) schema.tables

-- a transaction is open over a database of the schema
pub record IsReady (schema : Schema) (s : State) : Type 0 where
  pub schema_is : s.now.schema ≡ schema
  pub inside : IsTrue s.in_transaction
  pub rows : AreTables schema s.now.trees

-- the statement leaves these tables in the same transaction
pub record Leaves (schema : Schema) (old new : State) (tables : Trees) : Type 0 where
  pub ready : IsReady schema new
  pub sound : IsDatabase new.now
  pub is_open : IsTrue new.is_open
  pub tables_are : tables_of schema new.now.trees ≡ tables
  pub committed : new.committed ≡ old.committed

-- what a query for one row by its key gives
abbrev pub FindsRow : (Row → Bool) → (Row → Row) → List Row → Option Row → Type 0
FindsRow test show rows None = list_any test rows ≡ false
FindsRow test show rows (Some x) = (r : Row) × Has rows r × (test r ≡ true) × (x ≡ show r)

-- what a query for the first row in an order gives
abbrev pub FindsFirst : (Row → Bool) → (Row → Row → Ordering) → (Row → Row) → List Row → Option Row → Type 0
FindsFirst test cmp show rows None = list_any test rows ≡ false
FindsFirst test cmp show rows (Some x) = (r : Row) × Has rows r × (test r ≡ true) × (x ≡ show r)
    × ((y : Row) → Has rows y → test y ≡ true → is_lt (cmp y r) ≡ false)

-- the first row of an answer, if it has one
abbrev pub IsFirstShown : List ℕ → Row → State → State → Option Row → Type 0
IsFirstShown sql params old new first = (rows : List Row) × Shown sql params old new rows × (first ≡ slice_get rows 0)
