-- Where each table holds the name that a removal goes by: a column's place, in each tree that the removal reaches.
use Rattle.std.specs.Prelude.{ℕ, ◌==◌, ◌||◌, if◌then◌else◌, Option, Some, None}
use Rattle.mm_store.specs.Tables.{gpkg_contents, gpkg_tile_matrix_set, gpkg_tile_matrix, mm_tables, mm_tiles, mm_rows}
use Rattle.mm_store.specs.Tables.{mm_media, gpkgext_relations, mm_map, mm_editions, mm_pieces}

-- the name of a table
abbrev pub table_place : ℕ → Option ℕ
table_place t =
    if (t == gpkg_contents.tree) || (t == gpkg_tile_matrix_set.tree) || (t == gpkg_tile_matrix.tree)
    || (t == mm_tables.tree) || (t == mm_tiles.tree) || (t == mm_rows.tree) || (t == mm_media.tree)
    then Some 1 else None

-- the name of a mapping
abbrev pub mapping_place : ℕ → Option ℕ
mapping_place t = if t == gpkgext_relations.tree then Some 7 else (if t == mm_map.tree then Some 1 else None)

-- the name of an edition
abbrev pub edition_place : ℕ → Option ℕ
edition_place t = if (t == mm_editions.tree) || (t == mm_pieces.tree) then Some 1 else None
