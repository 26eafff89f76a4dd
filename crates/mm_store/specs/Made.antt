-- The schema as its CREATE texts make it.
use Rattle.std.specs.Prelude.{◌≡◌, ℕ, List, [], ◌∷◌, take, map, fold, Ok}
use Rattle.std.specs.List.{AllByRecursion}
use Rattle.sqlite.specs.Table.{Table}
use Rattle.sqlite.specs.Schema.{Schema}
use Rattle.sqlite.specs.Change.{created, indexed}
use Rattle.sqlite.specs.Compile.{table_defined_by}
use Rattle.sql_forms.specs.Index.{Index}
use Rattle.mm_store.specs.Tables as tables
use Rattle.mm_store.specs.Creates as creates

-- a table as its text defines it, before the database gives it a tree
abbrev pub unplaced : Table → Table
unplaced t = record t { tree = 0 }

-- the schema of a database without tables
abbrev pub no_schema : Schema
no_schema = record { tables = []; indexes = []; views = [] }

-- the schema of the first so many tables, made in turn
abbrev pub first_tables : ℕ → Schema
first_tables n = fold created no_schema (map unplaced (take n tables.tables))

-- each text, with the table that it is to define
abbrev pub definitions : List (List ℕ × Table)
definitions =
    (creates.create_gpkg_spatial_ref_sys, tables.gpkg_spatial_ref_sys)
    ∷ (creates.create_gpkg_contents, tables.gpkg_contents)
    ∷ (creates.create_gpkg_tile_matrix_set, tables.gpkg_tile_matrix_set)
    ∷ (creates.create_gpkg_tile_matrix, tables.gpkg_tile_matrix)
    ∷ (creates.create_gpkg_extensions, tables.gpkg_extensions)
    ∷ (creates.create_gpkgext_relations, tables.gpkgext_relations)
    ∷ (creates.create_mm_profile, tables.mm_profile)
    ∷ (creates.create_mm_tables, tables.mm_tables)
    ∷ (creates.create_mm_tiles, tables.mm_tiles)
    ∷ (creates.create_mm_rows, tables.mm_rows)
    ∷ (creates.create_mm_media, tables.mm_media)
    ∷ (creates.create_mm_map, tables.mm_map)
    ∷ (creates.create_mm_editions, tables.mm_editions)
    ∷ (creates.create_mm_pieces, tables.mm_pieces)
    ∷ (creates.create_mm_blobs, tables.mm_blobs) ∷ []

-- the text defines the table
abbrev pub Defines : List ℕ × Table → Type 0
Defines d = table_defined_by d.0 ≡ Ok (unplaced d.1)

-- each of these texts defines its table
abbrev pub AllDefine : List (List ℕ × Table) → Type 0
AllDefine = AllByRecursion Defines

-- ---- the indexes that the texts make, behind all tables

-- an index as its text defines it, before the database gives it a tree
abbrev pub unplaced_index : Index → Index
unplaced_index i = record i { tree = 0 }

-- the fifteen tables and the index on the digests of blobs
abbrev pub with_digest : Schema
with_digest = indexed (first_tables 15) tables.mm_blobs (unplaced_index tables.mm_blobs_digest)

-- and the index on the blobs of tiles
abbrev pub with_tiles : Schema
with_tiles = indexed with_digest tables.mm_tiles (unplaced_index tables.mm_tiles_blob)

-- and the index on the blobs of media
abbrev pub with_media : Schema
with_media = indexed with_tiles tables.mm_media (unplaced_index tables.mm_media_blob)

-- and the index on the blobs of staged pieces
abbrev pub with_pieces : Schema
with_pieces = indexed with_media tables.mm_pieces (unplaced_index tables.mm_pieces_blob)

-- and the index on the related ids of mapping rows, the last: the whole schema
abbrev pub with_related : Schema
with_related = indexed with_pieces tables.mm_map (unplaced_index tables.mm_map_related)
