-- A package together with how its bytes are kept.
use Rattle.std.specs.Prelude.{◌≡◌, ◌≢◌, ℕ, ℤ, Bool, true, false, ◌&&◌, ◌||◌, not, List, [], ◌∷◌, IsTrue, Option, Some}
use Rattle.std.specs.Prelude.{None}
use Rattle.std.specs.List.{list_any}
use Rattle.std.specs.FinMap.{get}
use Rattle.sqlite.specs.declared.types.Value.TheVariants.{Int}
use Rattle.sqlite.specs.Order.{Row}
use Rattle.sqlite.specs.Tree.{Trees}
use Rattle.sqlite.specs.Effect.{Database}
use Rattle.sqlite.specs.State.{State}
use Rattle.sql_forms.specs.Listing.{IsSound}
use Rattle.sql_forms.specs.Tables.{tables_of, AreTables, has_key}
use Rattle.mm_store.specs.Tables.{schema}
use Rattle.mm_definitions.specs.Bounds.{Profile}
use Rattle.mm_definitions.specs.Keys.{same_number}
use Rattle.mm_definitions.specs.Package.{Package}
use Rattle.mm_store.specs.Blobs.{Blob, Shelf, bytes_at}
use Rattle.mm_store.specs.Kept.{Kept, Spare}
use Rattle.mm_store.specs.Stands.{HoldingBut, Ground, StandsOn}

-- this blob too may stand though nothing names it
abbrev pub spare_too : ℤ → Spare → Spare
spare_too id spare z = spare z || same_number z id

-- these blobs may, but not this one
abbrev pub spare_but : ℤ → Spare → Spare
spare_but id spare z = spare z && not (same_number z id)

-- those too whose ids these rows begin with
abbrev pub spare_each : List Row → Spare → Spare
spare_each rows spare z = spare z || list_any (has_key (0 ∷ []) (Int z ∷ [])) rows

-- a package, and how its bytes are kept
pub record View : Type 0 where
  pub content : Package
  pub kept : Kept

-- the tables hold the package, and keep its bytes so
abbrev pub HoldsAs : Spare → ℤ → Trees → View → Type 0
HoldsAs spare version tables x = (h : HoldingBut spare version tables x.content) × (h.kept ≡ x.kept)

-- the database obeys the schema of the profile and holds the package kept so, but for these blobs
pub record Sees (spare : Spare) (version : ℤ) (db : Database) (x : View) : Type 0 where
  pub schema_is : db.schema ≡ schema
  pub sound : ∥ IsSound schema db.trees ∥₁
  pub rows : AreTables schema db.trees
  pub holds : HoldsAs spare version (tables_of schema db.trees) x

-- a transaction is open on the ground, and sees the package kept so, but for these blobs
pub record IsSeen (spare : Spare) (profile : Profile) (s : State) (ground : Ground) (x : View) : Type 0 where
  pub mode : IsTrue s.in_transaction
  pub back : StandsOn s ground
  pub reads : IsTrue s.is_open → Sees spare profile.version s.now x

-- the one is the other but for its shelf
abbrev pub AllButShelf : View → View → Type 0
AllButShelf x y = y ≡ record x { kept = record (x.kept) { shelf = y.kept.shelf } }

-- ---- what is found

-- no blob holds the bytes
abbrev pub Lacks : Shelf → List ℕ → Type 0
Lacks shelf bytes = (id : ℤ) (b : Blob) → get shelf id ≡ Some b → b.bytes ≢ bytes

-- the id is that of a blob of the bytes, and there is none where no blob holds them
abbrev pub IsFound : Shelf → List ℕ → Option ℤ → Type 0
IsFound shelf bytes None = Lacks shelf bytes
IsFound shelf bytes (Some id) = bytes_at shelf id ≡ Some bytes

-- the answer is true where P holds, and false where it does not
abbrev pub TellsWhether : Type 0 → Bool → Type 0
TellsWhether P true = P
TellsWhether P false = ¬ P

-- the rows begin with each of these ids
abbrev pub ListsEach : List Row → (ℤ → Type 0) → Type 0
ListsEach rows P = (z : ℤ) → P z → list_any (has_key (0 ∷ []) (Int z ∷ [])) rows ≡ true
