-- The text of each CREATE TABLE and CREATE INDEX, in the order in which they are made.
use Rattle.std.specs.Prelude.{ℕ, List, codes}

-- the table of spatial reference systems
abbrev pub create_gpkg_spatial_ref_sys : List ℕ
create_gpkg_spatial_ref_sys = codes "CREATE TABLE gpkg_spatial_ref_sys (srs_name TEXT NOT NULL, srs_id INTEGER NOT NULL PRIMARY KEY, organization TEXT NOT NULL, organization_coordsys_id INTEGER NOT NULL, definition TEXT NOT NULL, description TEXT NOT NULL) STRICT"

-- the table of contents rows, whose system has to stand where one is named
abbrev pub create_gpkg_contents : List ℕ
create_gpkg_contents = codes "CREATE TABLE gpkg_contents (table_name TEXT NOT NULL PRIMARY KEY, data_type TEXT NOT NULL, identifier TEXT NOT NULL UNIQUE, description TEXT NOT NULL, last_change TEXT NOT NULL, min_x INTEGER, min_y INTEGER, max_x INTEGER, max_y INTEGER, srs_id INTEGER, FOREIGN KEY (srs_id) REFERENCES gpkg_spatial_ref_sys (srs_id)) STRICT"

-- the table of tile matrix sets, which are removed with their contents rows
abbrev pub create_gpkg_tile_matrix_set : List ℕ
create_gpkg_tile_matrix_set = codes "CREATE TABLE gpkg_tile_matrix_set (table_name TEXT NOT NULL PRIMARY KEY, srs_id INTEGER NOT NULL, min_x INTEGER NOT NULL, min_y INTEGER NOT NULL, max_x INTEGER NOT NULL, max_y INTEGER NOT NULL, FOREIGN KEY (table_name) REFERENCES gpkg_contents (table_name) ON DELETE CASCADE, FOREIGN KEY (srs_id) REFERENCES gpkg_spatial_ref_sys (srs_id)) STRICT"

-- the table of tile matrices, which are removed with their contents rows
abbrev pub create_gpkg_tile_matrix : List ℕ
create_gpkg_tile_matrix = codes "CREATE TABLE gpkg_tile_matrix (table_name TEXT NOT NULL, zoom_level INTEGER NOT NULL, matrix_width INTEGER NOT NULL, matrix_height INTEGER NOT NULL, tile_width INTEGER NOT NULL, tile_height INTEGER NOT NULL, pixel_x_size INTEGER NOT NULL, pixel_y_size INTEGER NOT NULL, PRIMARY KEY (table_name, zoom_level), FOREIGN KEY (table_name) REFERENCES gpkg_contents (table_name) ON DELETE CASCADE) STRICT"

-- the table of extension rows, which refer to no other table
abbrev pub create_gpkg_extensions : List ℕ
create_gpkg_extensions = codes "CREATE TABLE gpkg_extensions (table_name TEXT, column_name TEXT, extension_name TEXT NOT NULL, definition TEXT NOT NULL, scope TEXT NOT NULL, UNIQUE (table_name, column_name, extension_name)) STRICT"

-- the table of relations, whose base and related table can't be removed before them
abbrev pub create_gpkgext_relations : List ℕ
create_gpkgext_relations = codes "CREATE TABLE gpkgext_relations (id INTEGER NOT NULL PRIMARY KEY, base_table_name TEXT NOT NULL, base_primary_column TEXT NOT NULL, related_table_name TEXT NOT NULL, related_primary_column TEXT NOT NULL, relation_name TEXT NOT NULL, mapping_table_name TEXT NOT NULL UNIQUE, FOREIGN KEY (base_table_name) REFERENCES gpkg_contents (table_name) ON DELETE RESTRICT, FOREIGN KEY (related_table_name) REFERENCES gpkg_contents (table_name) ON DELETE RESTRICT) STRICT"

-- the table of the profile's version
abbrev pub create_mm_profile : List ℕ
create_mm_profile = codes "CREATE TABLE mm_profile (id INTEGER NOT NULL PRIMARY KEY, version INTEGER NOT NULL) STRICT"

-- the registry of the tables' kinds, whose rows are removed with the contents rows
abbrev pub create_mm_tables : List ℕ
create_mm_tables = codes "CREATE TABLE mm_tables (table_name TEXT NOT NULL PRIMARY KEY, kind TEXT NOT NULL, FOREIGN KEY (table_name) REFERENCES gpkg_contents (table_name) ON DELETE CASCADE) STRICT"

-- the table of tiles, which are removed with their matrix, and whose blobs can't be removed before them
abbrev pub create_mm_tiles : List ℕ
create_mm_tiles = codes "CREATE TABLE mm_tiles (table_name TEXT NOT NULL, zoom_level INTEGER NOT NULL, tile_column INTEGER NOT NULL, tile_row INTEGER NOT NULL, blob INTEGER NOT NULL, PRIMARY KEY (table_name, zoom_level, tile_column, tile_row), FOREIGN KEY (table_name, zoom_level) REFERENCES gpkg_tile_matrix (table_name, zoom_level) ON DELETE CASCADE, FOREIGN KEY (blob) REFERENCES mm_blobs (id) ON DELETE RESTRICT) STRICT"

-- the table of attribute rows, which are removed with the contents rows
abbrev pub create_mm_rows : List ℕ
create_mm_rows = codes "CREATE TABLE mm_rows (table_name TEXT NOT NULL, id INTEGER NOT NULL, title TEXT NOT NULL, note TEXT NOT NULL, amount INTEGER NOT NULL, PRIMARY KEY (table_name, id), FOREIGN KEY (table_name) REFERENCES gpkg_contents (table_name) ON DELETE CASCADE) STRICT"

-- the table of media, which are removed with the contents rows, and whose blobs can't be removed before them
abbrev pub create_mm_media : List ℕ
create_mm_media = codes "CREATE TABLE mm_media (table_name TEXT NOT NULL, id INTEGER NOT NULL, blob INTEGER NOT NULL, content_type TEXT NOT NULL, PRIMARY KEY (table_name, id), FOREIGN KEY (table_name) REFERENCES gpkg_contents (table_name) ON DELETE CASCADE, FOREIGN KEY (blob) REFERENCES mm_blobs (id) ON DELETE RESTRICT) STRICT"

-- the table of mapping rows, which are removed with their relation
abbrev pub create_mm_map : List ℕ
create_mm_map = codes "CREATE TABLE mm_map (mapping TEXT NOT NULL, base_id INTEGER NOT NULL, related_id INTEGER NOT NULL, PRIMARY KEY (mapping, base_id, related_id), FOREIGN KEY (mapping) REFERENCES gpkgext_relations (mapping_table_name) ON DELETE CASCADE) STRICT"

-- the table of editions
abbrev pub create_mm_editions : List ℕ
create_mm_editions = codes "CREATE TABLE mm_editions (name TEXT NOT NULL PRIMARY KEY, state TEXT NOT NULL) STRICT"

-- the table of staged pieces, which are removed with their edition, and whose blobs can't be removed before them
abbrev pub create_mm_pieces : List ℕ
create_mm_pieces = codes "CREATE TABLE mm_pieces (edition TEXT NOT NULL, piece_no INTEGER NOT NULL, kind TEXT NOT NULL, name TEXT NOT NULL, k1 INTEGER NOT NULL, k2 INTEGER NOT NULL, k3 INTEGER NOT NULL, k4 INTEGER NOT NULL, k5 INTEGER NOT NULL, k6 INTEGER NOT NULL, k7 INTEGER NOT NULL, t1 TEXT NOT NULL, t2 TEXT NOT NULL, blob INTEGER, PRIMARY KEY (edition, piece_no), FOREIGN KEY (edition) REFERENCES mm_editions (name) ON DELETE CASCADE, FOREIGN KEY (blob) REFERENCES mm_blobs (id) ON DELETE RESTRICT) STRICT"

-- the table of blobs
abbrev pub create_mm_blobs : List ℕ
create_mm_blobs = codes "CREATE TABLE mm_blobs (id INTEGER NOT NULL PRIMARY KEY, digest TEXT NOT NULL, data BLOB NOT NULL) STRICT"

-- ---- indexes, each on a table that is there

-- blobs by their digest
abbrev pub create_mm_blobs_digest : List ℕ
create_mm_blobs_digest = codes "CREATE INDEX mm_blobs_digest ON mm_blobs (digest)"

-- tiles by the blob that they name
abbrev pub create_mm_tiles_blob : List ℕ
create_mm_tiles_blob = codes "CREATE INDEX mm_tiles_blob ON mm_tiles (blob)"

-- media by the blob that they name
abbrev pub create_mm_media_blob : List ℕ
create_mm_media_blob = codes "CREATE INDEX mm_media_blob ON mm_media (blob)"

-- staged pieces by the blob that they name
abbrev pub create_mm_pieces_blob : List ℕ
create_mm_pieces_blob = codes "CREATE INDEX mm_pieces_blob ON mm_pieces (blob)"

-- the mapping rows of a relation by their related id
abbrev pub create_mm_map_related : List ℕ
create_mm_map_related = codes "CREATE INDEX mm_map_related ON mm_map (mapping, related_id)"
