-- The tables of a package and the schema that they are, as values. The first six are the tables of a GeoPackage, under
-- the names of the standard.
use Rattle.std.specs.Prelude.{ℕ, true, false, List, [], ◌∷◌, codes, Option, Some, None, slice_index_or}
use Rattle.sqlite.specs.Collation.TheVariants.{Binary}
use Rattle.sqlite.specs.declared.types.Value.TheVariants.{Null}
use Rattle.sqlite.specs.Kind.{Kind}
use Rattle.sqlite.specs.Kind.TheVariants.{Integer, Text, Blob}
use Rattle.sqlite.specs.Table.{Table}
use Rattle.sqlite.specs.Schema.{Schema}
use Rattle.sql_forms.specs.Column.{Column}
use Rattle.sql_forms.specs.Index.{Index}
use Rattle.sql_forms.specs.Reference.{Reference}
use Rattle.sql_forms.specs.Action.{Action}
use Rattle.sql_forms.specs.Action.TheVariants.{NoAction, Cascade, Restrict}
use Rattle.sql_forms.specs.Direction.{Order}
use Rattle.sql_forms.specs.Keys.{plain}
use Rattle.sql_forms.specs.Listing.{automatic}

-- a NOT NULL column of a STRICT table, by its name and type; its texts compare byte by byte
abbrev required : List ℕ → Kind → Column
required name kind = record {
  name = name;
  kind = kind;
  is_strict = true;
  not_null = true;
  default = Null;
  collation = Binary;
}

-- the same of a column that may be NULL
abbrev optional : List ℕ → Kind → Column
optional name kind = record {
  name = name;
  kind = kind;
  is_strict = true;
  not_null = false;
  default = Null;
  collation = Binary;
}

-- a foreign key: its columns by their places, the table and the columns that it refers to, and what a removal there
-- does
abbrev refers : List ℕ → List ℕ → List (List ℕ) → Action → Reference
refers columns parent parent_columns on_delete =
    record {
      columns = columns;
      parent = parent;
      parent_columns = parent_columns;
      on_delete = on_delete;
      on_update = NoAction;
      is_deferred = false;
    }

-- A table, and the tree of its rows. `key` is the column that is the rowid, counted from 0; in the primary key, the
-- unique keys and the foreign keys a place counts the columns from 1, and 0 is the rowid.
abbrev table : List ℕ → ℕ → List Column → Option ℕ → List ℕ → List (List ℕ) → List Order → List Reference → Table
table name tree columns key primary uniques orders references = record {
  name = name;
  tree = tree;
  columns = columns;
  key = key;
  primary = primary;
  uniques = uniques;
  orders = orders;
  checks = [];
  references = references;
  computed = [];
  stamps = record { places = []; terms = []; formats = [] };
  is_counted = false;
}

-- an index that a text makes, of a column that may hold a value more than once
abbrev index_on : List ℕ → ℕ → Table → List ℕ → Index
index_on name tree it columns =
    record { name = name; tree = tree; table = it.tree; columns = columns; order = plain; is_unique = false }

-- the index of one of the table's keys
abbrev unique : Table → ℕ → ℕ → Index
unique it at tree = automatic it at (slice_index_or it.uniques at []) tree

-- the spatial reference systems, by `srs_id`
abbrev pub gpkg_spatial_ref_sys : Table
gpkg_spatial_ref_sys = table (codes "gpkg_spatial_ref_sys") 0
    (required (codes "srs_name") Text
    ∷ required (codes "srs_id") Integer
    ∷ required (codes "organization") Text
    ∷ required (codes "organization_coordsys_id") Integer
    ∷ required (codes "definition") Text
    ∷ required (codes "description") Text
    ∷ [])
    (Some 1) (0 ∷ []) ([]) ([])
    ([])

-- the contents rows, by table name; no two have one identifier, and the bounds and the system may be NULL
abbrev pub gpkg_contents : Table
gpkg_contents = table (codes "gpkg_contents") 1
    (required (codes "table_name") Text
    ∷ required (codes "data_type") Text
    ∷ required (codes "identifier") Text
    ∷ required (codes "description") Text
    ∷ required (codes "last_change") Text
    ∷ optional (codes "min_x") Integer
    ∷ optional (codes "min_y") Integer
    ∷ optional (codes "max_x") Integer
    ∷ optional (codes "max_y") Integer
    ∷ optional (codes "srs_id") Integer
    ∷ [])
    None (1 ∷ []) ((1 ∷ []) ∷ (3 ∷ []) ∷ []) (plain ∷ plain ∷ [])
    (refers (10 ∷ []) (codes "gpkg_spatial_ref_sys") (codes "srs_id" ∷ []) NoAction
    ∷ [])

-- the tile matrix sets, by table name: system and extent, in the unit of the profile; removed with their contents rows
abbrev pub gpkg_tile_matrix_set : Table
gpkg_tile_matrix_set = table (codes "gpkg_tile_matrix_set") 4
    (required (codes "table_name") Text
    ∷ required (codes "srs_id") Integer
    ∷ required (codes "min_x") Integer
    ∷ required (codes "min_y") Integer
    ∷ required (codes "max_x") Integer
    ∷ required (codes "max_y") Integer
    ∷ [])
    None (1 ∷ []) ((1 ∷ []) ∷ []) (plain ∷ [])
    (refers (1 ∷ []) (codes "gpkg_contents") (codes "table_name" ∷ []) Cascade
    ∷ refers (2 ∷ []) (codes "gpkg_spatial_ref_sys") (codes "srs_id" ∷ []) NoAction
    ∷ [])

-- the tile matrices, by table name and zoom level, with pixel sizes in the unit of the profile; removed with their
-- contents rows
abbrev pub gpkg_tile_matrix : Table
gpkg_tile_matrix = table (codes "gpkg_tile_matrix") 6
    (required (codes "table_name") Text
    ∷ required (codes "zoom_level") Integer
    ∷ required (codes "matrix_width") Integer
    ∷ required (codes "matrix_height") Integer
    ∷ required (codes "tile_width") Integer
    ∷ required (codes "tile_height") Integer
    ∷ required (codes "pixel_x_size") Integer
    ∷ required (codes "pixel_y_size") Integer
    ∷ [])
    None (1 ∷ 2 ∷ []) ((1 ∷ 2 ∷ []) ∷ []) (plain ∷ [])
    (refers (1 ∷ []) (codes "gpkg_contents") (codes "table_name" ∷ []) Cascade
    ∷ [])

-- the extension rows, without a primary key; equal ones may stand where a column of the unique key is NULL
abbrev pub gpkg_extensions : Table
gpkg_extensions = table (codes "gpkg_extensions") 8
    (optional (codes "table_name") Text
    ∷ optional (codes "column_name") Text
    ∷ required (codes "extension_name") Text
    ∷ required (codes "definition") Text
    ∷ required (codes "scope") Text
    ∷ [])
    None ([]) ((1 ∷ 2 ∷ 3 ∷ []) ∷ []) (plain ∷ [])
    ([])

-- the relations, by an id that the store chooses and by the mapping's name; a table that is an end of one can't be
-- removed
abbrev pub gpkgext_relations : Table
gpkgext_relations = table (codes "gpkgext_relations") 10
    (required (codes "id") Integer
    ∷ required (codes "base_table_name") Text
    ∷ required (codes "base_primary_column") Text
    ∷ required (codes "related_table_name") Text
    ∷ required (codes "related_primary_column") Text
    ∷ required (codes "relation_name") Text
    ∷ required (codes "mapping_table_name") Text
    ∷ [])
    (Some 0) (0 ∷ []) ((7 ∷ []) ∷ []) (plain ∷ [])
    (refers (2 ∷ []) (codes "gpkg_contents") (codes "table_name" ∷ []) Restrict
    ∷ refers (4 ∷ []) (codes "gpkg_contents") (codes "table_name" ∷ []) Restrict
    ∷ [])

-- the table of the profile: a package has one row, with the version of the file
abbrev pub mm_profile : Table
mm_profile = table (codes "mm_profile") 12
    (required (codes "id") Integer
    ∷ required (codes "version") Integer
    ∷ [])
    (Some 0) (0 ∷ []) ([]) ([])
    ([])

-- the registry: the kind of each table, by table name; removed with the contents rows
abbrev pub mm_tables : Table
mm_tables = table (codes "mm_tables") 13
    (required (codes "table_name") Text
    ∷ required (codes "kind") Text
    ∷ [])
    None (1 ∷ []) ((1 ∷ []) ∷ []) (plain ∷ [])
    (refers (1 ∷ []) (codes "gpkg_contents") (codes "table_name" ∷ []) Cascade
    ∷ [])

-- the tiles of all pyramids, by table name, zoom level, column and row, each with the id of its blob; removed with
-- their matrices
abbrev pub mm_tiles : Table
mm_tiles = table (codes "mm_tiles") 15
    (required (codes "table_name") Text
    ∷ required (codes "zoom_level") Integer
    ∷ required (codes "tile_column") Integer
    ∷ required (codes "tile_row") Integer
    ∷ required (codes "blob") Integer
    ∷ [])
    None (1 ∷ 2 ∷ 3 ∷ 4 ∷ []) ((1 ∷ 2 ∷ 3 ∷ 4 ∷ []) ∷ []) (plain ∷ [])
    (refers (1 ∷ 2 ∷ []) (codes "gpkg_tile_matrix") (codes "table_name" ∷ codes "zoom_level" ∷ []) Cascade
    ∷ refers (5 ∷ []) (codes "mm_blobs") (codes "id" ∷ []) Restrict
    ∷ [])

-- the attribute rows of all tables, by table name and id; removed with the contents rows
abbrev pub mm_rows : Table
mm_rows = table (codes "mm_rows") 17
    (required (codes "table_name") Text
    ∷ required (codes "id") Integer
    ∷ required (codes "title") Text
    ∷ required (codes "note") Text
    ∷ required (codes "amount") Integer
    ∷ [])
    None (1 ∷ 2 ∷ []) ((1 ∷ 2 ∷ []) ∷ []) (plain ∷ [])
    (refers (1 ∷ []) (codes "gpkg_contents") (codes "table_name" ∷ []) Cascade
    ∷ [])

-- the media of all tables, by table name and id, each with the id of its blob; removed with the contents rows
abbrev pub mm_media : Table
mm_media = table (codes "mm_media") 19
    (required (codes "table_name") Text
    ∷ required (codes "id") Integer
    ∷ required (codes "blob") Integer
    ∷ required (codes "content_type") Text
    ∷ [])
    None (1 ∷ 2 ∷ []) ((1 ∷ 2 ∷ []) ∷ []) (plain ∷ [])
    (refers (1 ∷ []) (codes "gpkg_contents") (codes "table_name" ∷ []) Cascade
    ∷ refers (3 ∷ []) (codes "mm_blobs") (codes "id" ∷ []) Restrict
    ∷ [])

-- the mapping rows of all relations, by mapping, base id and related id; removed with their relations
abbrev pub mm_map : Table
mm_map = table (codes "mm_map") 21
    (required (codes "mapping") Text
    ∷ required (codes "base_id") Integer
    ∷ required (codes "related_id") Integer
    ∷ [])
    None (1 ∷ 2 ∷ 3 ∷ []) ((1 ∷ 2 ∷ 3 ∷ []) ∷ []) (plain ∷ [])
    (refers (1 ∷ []) (codes "gpkgext_relations") (codes "mapping_table_name" ∷ []) Cascade
    ∷ [])

-- the editions, by name, with their state
abbrev pub mm_editions : Table
mm_editions = table (codes "mm_editions") 23
    (required (codes "name") Text
    ∷ required (codes "state") Text
    ∷ [])
    None (1 ∷ []) ((1 ∷ []) ∷ []) (plain ∷ [])
    ([])

-- the staged pieces, by edition and number; what k1 to t2 hold depends on the kind; removed with their editions
abbrev pub mm_pieces : Table
mm_pieces = table (codes "mm_pieces") 25
    (required (codes "edition") Text
    ∷ required (codes "piece_no") Integer
    ∷ required (codes "kind") Text
    ∷ required (codes "name") Text
    ∷ required (codes "k1") Integer
    ∷ required (codes "k2") Integer
    ∷ required (codes "k3") Integer
    ∷ required (codes "k4") Integer
    ∷ required (codes "k5") Integer
    ∷ required (codes "k6") Integer
    ∷ required (codes "k7") Integer
    ∷ required (codes "t1") Text
    ∷ required (codes "t2") Text
    ∷ optional (codes "blob") Integer
    ∷ [])
    None (1 ∷ 2 ∷ []) ((1 ∷ 2 ∷ []) ∷ []) (plain ∷ [])
    (refers (1 ∷ []) (codes "mm_editions") (codes "name" ∷ []) Cascade
    ∷ refers (14 ∷ []) (codes "mm_blobs") (codes "id" ∷ []) Restrict
    ∷ [])

-- the blobs: bytes that are kept once, by an id that the store chooses, with the SHA-256 of each as text
abbrev pub mm_blobs : Table
mm_blobs = table (codes "mm_blobs") 27
    (required (codes "id") Integer
    ∷ required (codes "digest") Text
    ∷ required (codes "data") Blob
    ∷ [])
    (Some 0) (0 ∷ []) ([]) ([])
    ([])

-- the fifteen tables, in the order in which they are made
abbrev pub tables : List Table
tables = gpkg_spatial_ref_sys ∷ gpkg_contents ∷ gpkg_tile_matrix_set ∷ gpkg_tile_matrix ∷ gpkg_extensions
    ∷ gpkgext_relations ∷ mm_profile ∷ mm_tables ∷ mm_tiles ∷ mm_rows ∷ mm_media ∷ mm_map ∷ mm_editions ∷ mm_pieces
    ∷ mm_blobs ∷ []

-- the index by which a blob is found from its digest
abbrev pub mm_blobs_digest : Index
mm_blobs_digest = index_on (codes "mm_blobs_digest") 28 mm_blobs (2 ∷ [])

-- the index by which the tiles are found that name a blob
abbrev pub mm_tiles_blob : Index
mm_tiles_blob = index_on (codes "mm_tiles_blob") 29 mm_tiles (5 ∷ [])

-- the index by which the media are found that name a blob
abbrev pub mm_media_blob : Index
mm_media_blob = index_on (codes "mm_media_blob") 30 mm_media (3 ∷ [])

-- the index by which the staged pieces are found that name a blob
abbrev pub mm_pieces_blob : Index
mm_pieces_blob = index_on (codes "mm_pieces_blob") 31 mm_pieces (14 ∷ [])

-- the index by which the mapping rows of a relation are found from their related id
abbrev pub mm_map_related : Index
mm_map_related = index_on (codes "mm_map_related") 32 mm_map (1 ∷ 3 ∷ [])

-- those that the tables' keys have, table by table, and then the five that texts make
abbrev pub indexes : List Index
indexes = unique gpkg_contents 0 2 ∷ unique gpkg_contents 1 3 ∷ unique gpkg_tile_matrix_set 0 5
    ∷ unique gpkg_tile_matrix 0 7 ∷ unique gpkg_extensions 0 9 ∷ unique gpkgext_relations 0 11 ∷ unique mm_tables 0 14
    ∷ unique mm_tiles 0 16 ∷ unique mm_rows 0 18 ∷ unique mm_media 0 20 ∷ unique mm_map 0 22 ∷ unique mm_editions 0 24
    ∷ unique mm_pieces 0 26 ∷ mm_blobs_digest ∷ mm_tiles_blob ∷ mm_media_blob ∷ mm_pieces_blob ∷ mm_map_related ∷ []

-- the schema of a package's file, under profile 1 as under profile 2
abbrev pub schema : Schema
schema = record { tables = tables; indexes = indexes; views = [] }
