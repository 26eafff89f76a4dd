-- What form the blobs of a database have, and what a check of it does.
use Rattle.std.specs.Prelude.{◌≡◌, ◌≢◌, ◌↔◌, ◌≤◌, ℕ, ℤ, ◌<ℤ◌, Bool, false, List, [], ◌∷◌, length, Option, Some, IfSome}
use Rattle.std.specs.Prelude.{IsTrue, Result, Ok, Err, IfOk, IfErr, OnOk, ⊤}
use Rattle.std.specs.FinMap.{get}
use Rattle.sqlite.specs.Order.{Row, column}
use Rattle.sqlite.specs.Tree.{Trees}
use Rattle.sqlite.specs.Effect.{Database}
use Rattle.sqlite.specs.State.{State, HasCleanDisk}
use Rattle.sql_forms.specs.Listing.{IsSound}
use Rattle.sql_forms.specs.Tables.{tables_of, AreTables}
use Rattle.sql_forms.specs.Maps.{Holds}
use Rattle.mm_store.specs.Tables.{schema, gpkg_spatial_ref_sys, gpkg_contents, gpkg_tile_matrix_set, gpkg_tile_matrix}
use Rattle.mm_store.specs.Tables.{gpkg_extensions, gpkgext_relations, mm_profile, mm_tables, mm_rows, mm_map}
use Rattle.mm_store.specs.Tables.{mm_editions, mm_tiles, mm_media, mm_pieces, mm_blobs}
use Rattle.mm_definitions.specs.Bounds.{Profile}
use Rattle.mm_definitions.specs.Package.{Package}
use Rattle.mm_definitions.specs.declared.answers.Fault.{Fault}
use Rattle.mm_definitions.specs.declared.answers.Open.{Open}
use Rattle.mm_definitions.specs.declared.answers.Open.TheVariants as opens
use Rattle.mm_store.specs.Rows.{whole, past_rowid, past_id, system_row, contents_row, kind_row, set_row, grid_row}
use Rattle.mm_store.specs.Rows.{tile_row, attribute_row, medium_row, relation_row, pairing_row, edition_row}
use Rattle.mm_store.specs.Rows.{staged_row, Counts}
use Rattle.mm_store.specs.Blobs.{Blob, AreBlobs, blob_row, digest_of, Tells}
use Rattle.mm_store.specs.Kept.{Kept, IsNamed, tile_id, tile_with, medium_id, medium_with, piece_id, piece_with}
use Rattle.mm_definitions.specs.Faults.{IsStoreFault}
use Rattle.mm_store.specs.Seen.{IsSeenAs}
use Rattle.mm_store.specs.Stands.{IsSettled, ReadsAs, profile_row}
use Rattle.mm_store.specs.Statements.{CommitsNothing}
use Rattle.mm_walk.specs.Columns.{text_bytes, bytes_of}
use Rattle.mm_walk.specs.RowTests.{whether}

-- The four tables hold these entries that name blobs, and these blobs, whatever form they have.
pub record KeepsAs (db : Database) (kept : Kept) : Type 0 where
  pub schema_is : db.schema ≡ schema
  pub tiles : Holds past_rowid tile_row (tables_of schema db.trees mm_tiles.tree) kept.tiles
  pub media : Holds past_rowid medium_row (tables_of schema db.trees mm_media.tree) kept.media
  pub pieces : Holds past_rowid staged_row (tables_of schema db.trees mm_pieces.tree) kept.pieces
  pub blobs : Holds whole blob_row (tables_of schema db.trees mm_blobs.tree) kept.shelf

-- ---- the form, and its parts

-- the bytes, of which there are some, have this digest
abbrev pub is_digested_by : Option (List ℕ) → Option (List ℕ) → Type 0
is_digested_by (Some digest) (Some bytes) = (bytes ≢ []) × (digest ≡ digest_of bytes)
is_digested_by _ _ = ⊥

-- a blob's digest, and its bytes, which have it
abbrev pub IsDigestedRow : Row → Type 0
IsDigestedRow r = is_digested_by (text_bytes (column r 0)) (bytes_of (column r 1))

-- each digest is right, and no blob is empty
abbrev pub AreDigested : Kept → Type 0
AreDigested kept = (id : ℤ) (b : Blob) → get kept.shelf id ≡ Some b → (b.bytes ≢ []) × (b.digest ≡ digest_of b.bytes)

-- no two have one digest and the same bytes
abbrev pub AreApart : Kept → Type 0
AreApart kept = (i : ℤ) (b : Blob) → get kept.shelf i ≡ Some b → (j : ℤ) (c : Blob) → get kept.shelf j ≡ Some c
    → (c.digest ≡ b.digest) × (i <ℤ j) × (c.bytes ≡ b.bytes) → ⊥

-- each is named
abbrev pub AreNamed : Kept → Type 0
AreNamed kept = (id : ℤ) (b : Blob) → get kept.shelf id ≡ Some b → IsNamed kept id

-- no blob has more bytes than this
abbrev pub AreShort : ℕ → Kept → Type 0
AreShort longest kept = (id : ℤ) (b : Blob) → get kept.shelf id ≡ Some b → length b.bytes ≤ longest

-- the bytes are no more than this
abbrev pub IsShortRow : ℕ → Row → Type 0
IsShortRow longest r = IfSome (bytes_of (column r 1)) (λ bytes. length bytes ≤ longest)

-- the form: the blobs are those that bytes kept once should have, and each is named
abbrev pub AreInForm : Kept → Type 0
AreInForm kept = AreBlobs kept.shelf × AreNamed kept

-- ---- a package whose bytes are kept in blobs of any form

-- The tables hold the package, part by part, and the entries that name blobs have its bytes.
pub record HoldsLoosely (version : ℤ) (tables : Trees) (kept : Kept) (p : Package) : Type 0 where
  pub systems : Holds whole system_row (tables gpkg_spatial_ref_sys.tree) p.systems
  pub contents : Holds past_rowid contents_row (tables gpkg_contents.tree) p.contents
  pub kinds : Holds past_rowid kind_row (tables mm_tables.tree) p.kinds
  pub sets : Holds past_rowid set_row (tables gpkg_tile_matrix_set.tree) p.sets
  pub matrices : Holds past_rowid grid_row (tables gpkg_tile_matrix.tree) p.matrices
  pub extensions : Counts (tables gpkg_extensions.tree) p.extensions
  pub rows : Holds past_rowid attribute_row (tables mm_rows.tree) p.rows
  pub relations : Holds past_id relation_row (tables gpkgext_relations.tree) p.relations
  pub pairings : Holds past_rowid pairing_row (tables mm_map.tree) p.pairings
  pub editions : Holds past_rowid edition_row (tables mm_editions.tree) p.editions
  pub tiles_told : Tells tile_id tile_with kept.shelf kept.tiles p.tiles
  pub media_told : Tells medium_id medium_with kept.shelf kept.media p.media
  pub pieces_told : Tells piece_id piece_with kept.shelf kept.pieces p.pieces
  pub profile : tables mm_profile.tree ≡ profile_row version ∷ []

-- all that a database is to have which reads as the package, but for the form of its blobs
pub record ReadsLoosely (version : ℤ) (db : Database) (kept : Kept) (p : Package) : Type 0 where
  pub sound : ∥ IsSound schema db.trees ∥₁
  pub rows : AreTables schema db.trees
  pub keeps : KeepsAs db kept
  pub holds : HoldsLoosely version (tables_of schema db.trees) kept p

-- ---- a check of the form, or of a part

-- It opens no transaction, writes nothing, and leaves the connection reading as before, and settled where it was. It
-- tells whether the blobs have the form, whatever the four tables hold. Its faults are the store's, and none is the
-- form's.
pub record IsFormCheck (old new : State) (Form : Kept → Type 0) (result : Result Bool Fault) : Type 0 where
  pub mode : old.in_transaction ≡ false → new.in_transaction ≡ false
  pub survives : CommitsNothing old new
  pub same : HasCleanDisk new → OnOk result (IsTrue old.is_open × IsTrue new.is_open × (new.now ≡ old.now))
  pub seen : HasCleanDisk new → (profile : Profile) (p : Package) → IsSeenAs profile old p → IsSeenAs profile new p
  pub settled : HasCleanDisk new → (profile : Profile) (p : Package) → IsSettled profile old p → IsSettled profile new p
  pub says : HasCleanDisk new → (kept : Kept) → (IsTrue old.is_open → KeepsAs old.now kept)
      → IfOk result (λ b. IsTrue b ↔ Form kept)
  pub faults : IfErr result IsStoreFault

-- It tells whether the blobs have the form, and where they have, how many bytes the longest has.
pub record TellsLongest (old new : State) (Form : Kept → Type 0) (result : Result (Option ℕ) Fault) : Type 0 where
  pub form : IsFormCheck old new Form (whether result)
  pub longest : HasCleanDisk new → (kept : Kept) → (IsTrue old.is_open → KeepsAs old.now kept)
      → IfOk result (λ told. IfSome told (λ longest. AreShort longest kept))

-- Where all else is as it should be, the form is what tells whether the database reads as the package.
abbrev pub DecidesReading : State → State → Result Bool Fault → Type 0
DecidesReading old new result = (version : ℤ) (kept : Kept) (p : Package)
    → (IsTrue old.is_open → ReadsLoosely version old.now kept p)
    → IfOk result (λ b. IsTrue b ↔ ReadsAs version new.now p)

-- ---- what a form that is asked for tells of a database

-- the blobs have their form, whatever entries name them
abbrev pub BlobsStand : State → Type 0
BlobsStand s = (kept : Kept) → (IsTrue s.is_open → KeepsAs s.now kept) → AreInForm kept

-- they have not
abbrev pub BlobsFail : State → Type 0
BlobsFail s = (kept : Kept) → (IsTrue s.is_open → KeepsAs s.now kept) → AreInForm kept → ⊥

-- 98 is told where the form fails, and a rule, or that none fails, where it holds
abbrev pub TellsForm : State → Result (Unit {0}) Open → Type 0
TellsForm s (Ok _) = BlobsStand s
TellsForm s (Err opens.BadBlobs) = BlobsFail s
TellsForm s (Err (opens.Rule rule)) = BlobsStand s
TellsForm s (Err _) = ⊤
