-- Which databases stand for a package, and what a connection over them shows.
use Rattle.std.specs.Prelude.{◌≡◌, ℤ, pos, Bool, false, [], ◌∷◌, IsTrue}
use Rattle.sqlite.specs.declared.types.Value.TheVariants.{Null, Int}
use Rattle.sqlite.specs.Order.{Row}
use Rattle.sqlite.specs.Tree.{Trees}
use Rattle.sqlite.specs.Effect.{Database}
use Rattle.sqlite.specs.State.{State}
use Rattle.sql_forms.specs.Listing.{IsSound}
use Rattle.sql_forms.specs.Tables.{tables_of, AreTables}
use Rattle.sql_forms.specs.Maps.{Holds}
use Rattle.mm_store.specs.Tables.{schema, gpkg_spatial_ref_sys, gpkg_contents, gpkg_tile_matrix_set, gpkg_tile_matrix}
use Rattle.mm_store.specs.Tables.{gpkg_extensions, gpkgext_relations, mm_profile, mm_tables, mm_rows, mm_map}
use Rattle.mm_store.specs.Tables.{mm_editions}
use Rattle.mm_definitions.specs.Package.{Package}
use Rattle.mm_definitions.specs.Bounds.{Profile}
use Rattle.mm_store.specs.Rows.{whole, past_rowid, past_id, system_row, contents_row, kind_row, set_row, grid_row}
use Rattle.mm_store.specs.Rows.{attribute_row, relation_row, pairing_row, edition_row, Counts}
use Rattle.mm_store.specs.Kept.{Kept, HoldsKept, Spare, no_spare}

-- the one row of the profile's table
abbrev pub profile_row : ℤ → Row
profile_row version = Int (pos 1) ∷ Null ∷ Int version ∷ []

-- The tables hold the package, part by part, but for these blobs that nothing names.
pub record HoldingBut (spare : Spare) (version : ℤ) (tables : Trees) (p : Package) : Type 0 where
  pub systems : Holds whole system_row (tables gpkg_spatial_ref_sys.tree) p.systems
  pub contents : Holds past_rowid contents_row (tables gpkg_contents.tree) p.contents
  pub kinds : Holds past_rowid kind_row (tables mm_tables.tree) p.kinds
  pub sets : Holds past_rowid set_row (tables gpkg_tile_matrix_set.tree) p.sets
  pub matrices : Holds past_rowid grid_row (tables gpkg_tile_matrix.tree) p.matrices
  pub extensions : Counts (tables gpkg_extensions.tree) p.extensions
  pub rows : Holds past_rowid attribute_row (tables mm_rows.tree) p.rows
  pub relations : Holds past_id relation_row (tables gpkgext_relations.tree) p.relations
  pub pairings : Holds past_rowid pairing_row (tables mm_map.tree) p.pairings
  pub editions : Holds past_rowid edition_row (tables mm_editions.tree) p.editions
  pub kept : Kept
  pub keeps : HoldsKept spare tables kept p
  pub profile : tables mm_profile.tree ≡ profile_row version ∷ []

-- the same with every blob named
abbrev pub Holding : ℤ → Trees → Package → Type 0
Holding = HoldingBut no_spare

-- The trees list the profile's tables and obey them, their rowids are integers that rise, and the rows are the
-- package's, but for these blobs.
pub record StandsForBut (spare : Spare) (version : ℤ) (db : Trees) (p : Package) : Type 0 where
  pub sound : ∥ IsSound schema db ∥₁
  pub rows : AreTables schema db
  pub holds : HoldingBut spare version (tables_of schema db) p

-- the same with every blob named: the database stands for the package
abbrev pub StandsFor : ℤ → Trees → Package → Type 0
StandsFor = StandsForBut no_spare

-- a connection's database, with the schema that it goes by
pub record ReadsAsBut (spare : Spare) (version : ℤ) (db : Database) (p : Package) : Type 0 where
  pub schema_is : db.schema ≡ schema
  pub stands : StandsForBut spare version db.trees p

-- the same with every blob named: the connection's database reads as the package
abbrev pub ReadsAs : ℤ → Database → Package → Type 0
ReadsAs = ReadsAsBut no_spare

-- what a rollback goes back to, and whether the store was open there
pub record Ground : Type 0 where
  pub database : Database
  pub is_open : Bool

-- what a rollback goes back to now: the database that was committed last, and whether the store is open
abbrev pub ground_of : State → Ground
ground_of s = record { database = s.committed; is_open = s.is_open }

-- a rollback goes back to this ground
abbrev pub StandsOn : State → Ground → Type 0
StandsOn s ground = IsTrue s.is_open → (s.committed ≡ ground.database) × IsTrue ground.is_open

-- a transaction is open on the ground, and sees the package, but for these blobs
pub record IsInsideBut (spare : Spare) (profile : Profile) (s : State) (ground : Ground) (p : Package) : Type 0 where
  pub mode : IsTrue s.in_transaction
  pub back : StandsOn s ground
  pub reads : IsTrue s.is_open → ReadsAsBut spare profile.version s.now p

-- and sees it with all its bytes kept once
abbrev pub StandsInside : Profile → State → Ground → Package → Type 0
StandsInside = IsInsideBut no_spare

-- no transaction is open, the connection reads as the package, and each database that may be left stands for it
pub record IsSettled (profile : Profile) (s : State) (p : Package) : Type 0 where
  pub mode : s.in_transaction ≡ false
  pub back : IsTrue s.is_open → ReadsAs profile.version s.committed p
  pub reads : IsTrue s.is_open → ReadsAs profile.version s.now p
  pub left : (db : Trees) → s.may_leave db → StandsFor profile.version db p
