-- The text of the statements of commands and reads, table by table; those of the rules, the blobs and the scaling stand
-- in their crates.
use Rattle.std.specs.Prelude.{ℕ, List, codes}

-- ---- the profile

-- the rows of the profile's table, of which a package has one
abbrev pub profile_rows : List ℕ
profile_rows = codes "SELECT id, version FROM mm_profile"

-- puts the profile's row: its id, and the version
abbrev pub insert_profile : List ℕ
insert_profile = codes "INSERT INTO mm_profile (id, version) VALUES (?1, ?2)"

-- ---- reference systems

-- whether a system has the number
abbrev pub has_system : List ℕ
has_system = codes "SELECT 1 FROM gpkg_spatial_ref_sys WHERE srs_id = ?1 LIMIT 1"

-- puts a system: its name, number, organization, number at the organization, definition and description
abbrev pub insert_system : List ℕ
insert_system = codes "INSERT INTO gpkg_spatial_ref_sys (srs_name, srs_id, organization, organization_coordsys_id, definition, description) VALUES (?1, ?2, ?3, ?4, ?5, ?6)"

-- ---- contents

-- whether a table has the name
abbrev pub has_table : List ℕ
has_table = codes "SELECT 1 FROM gpkg_contents WHERE table_name = ?1 LIMIT 1"

-- whether a contents row has the identifier
abbrev pub has_identifier : List ℕ
has_identifier = codes "SELECT 1 FROM gpkg_contents WHERE identifier = ?1 LIMIT 1"

-- puts the contents row of a pyramid: its name, identifier, stamp, four bounds and system
abbrev pub insert_pyramid_contents : List ℕ
insert_pyramid_contents = codes "INSERT INTO gpkg_contents (table_name, data_type, identifier, description, last_change, min_x, min_y, max_x, max_y, srs_id) VALUES (?1, 'tiles', ?2, '', ?3, ?4, ?5, ?6, ?7, ?8)"

-- puts the contents row of a table that is no pyramid: its name, identifier and stamp
abbrev pub insert_plain_contents : List ℕ
insert_plain_contents = codes "INSERT INTO gpkg_contents (table_name, data_type, identifier, description, last_change) VALUES (?1, 'attributes', ?2, '', ?3)"

-- sets last_change of a table: its name, and the stamp
abbrev pub touch_contents : List ℕ
touch_contents = codes "UPDATE gpkg_contents SET last_change = ?2 WHERE table_name = ?1 AND last_change <> ?2"

-- removes a contents row, and by CASCADE kind, matrix set, matrices, tiles, attribute rows and media of the table;
-- blobs stay
abbrev pub delete_table : List ℕ
delete_table = codes "DELETE FROM gpkg_contents WHERE table_name = ?1"

-- ---- kinds of tables

-- the kind of a table, as the registry writes it
abbrev pub kind_of_table : List ℕ
kind_of_table = codes "SELECT kind FROM mm_tables WHERE table_name = ?1 LIMIT 1"

-- puts the kind of a table into the registry
abbrev pub insert_kind : List ℕ
insert_kind = codes "INSERT INTO mm_tables (table_name, kind) VALUES (?1, ?2)"

-- ---- matrix sets

-- the extent of a pyramid, from its matrix set
abbrev pub extent_of_table : List ℕ
extent_of_table = codes "SELECT min_x, min_y, max_x, max_y FROM gpkg_tile_matrix_set WHERE table_name = ?1 LIMIT 1"

-- puts the matrix set of a pyramid: its name, system and four bounds
abbrev pub insert_matrix_set : List ℕ
insert_matrix_set = codes "INSERT INTO gpkg_tile_matrix_set (table_name, srs_id, min_x, min_y, max_x, max_y) VALUES (?1, ?2, ?3, ?4, ?5, ?6)"

-- ---- matrices

-- whether a pyramid has a matrix at a zoom level
abbrev pub has_matrix : List ℕ
has_matrix = codes "SELECT 1 FROM gpkg_tile_matrix WHERE table_name = ?1 AND zoom_level = ?2 LIMIT 1"

-- width and height of the matrix at a zoom level, in tiles
abbrev pub matrix_sides : List ℕ
matrix_sides = codes "SELECT matrix_width, matrix_height FROM gpkg_tile_matrix WHERE table_name = ?1 AND zoom_level = ?2 LIMIT 1"

-- the nearest lower zoom level at which a pyramid has a matrix, with that matrix
abbrev pub matrix_below : List ℕ
matrix_below = codes "SELECT zoom_level, matrix_width, matrix_height, tile_width, tile_height, pixel_x_size, pixel_y_size FROM gpkg_tile_matrix WHERE table_name = ?1 AND zoom_level < ?2 ORDER BY zoom_level DESC LIMIT 1"

-- the nearest higher zoom level at which a pyramid has a matrix, with that matrix
abbrev pub matrix_above : List ℕ
matrix_above = codes "SELECT zoom_level, matrix_width, matrix_height, tile_width, tile_height, pixel_x_size, pixel_y_size FROM gpkg_tile_matrix WHERE table_name = ?1 AND zoom_level > ?2 ORDER BY zoom_level LIMIT 1"

-- puts a matrix: its pyramid, zoom level, sides in tiles, sides of a tile in pixels, and pixel sizes
abbrev pub insert_matrix : List ℕ
insert_matrix = codes "INSERT INTO gpkg_tile_matrix (table_name, zoom_level, matrix_width, matrix_height, tile_width, tile_height, pixel_x_size, pixel_y_size) VALUES (?1, ?2, ?3, ?4, ?5, ?6, ?7, ?8)"

-- ---- extension rows

-- puts the extension row of a mapping, or of gpkgext_relations
abbrev pub insert_related_row : List ℕ
insert_related_row = codes "INSERT INTO gpkg_extensions (table_name, column_name, extension_name, definition, scope) VALUES (?1, NULL, 'gpkg_related_tables', 'OGC 18-000', 'read-write')"

-- puts the extension row of a pyramid of kind `other`
abbrev pub insert_zoom_row : List ℕ
insert_zoom_row = codes "INSERT INTO gpkg_extensions (table_name, column_name, extension_name, definition, scope) VALUES (?1, 'tile_data', 'gpkg_zoom_other', 'OGC 12-128r17', 'read-write')"

-- removes the extension row of a mapping
abbrev pub delete_related_row : List ℕ
delete_related_row = codes "DELETE FROM gpkg_extensions WHERE table_name = ?1 AND column_name IS NULL AND extension_name = 'gpkg_related_tables' AND definition = 'OGC 18-000' AND scope = 'read-write'"

-- removes the extension row of a pyramid of kind `other`
abbrev pub delete_zoom_row : List ℕ
delete_zoom_row = codes "DELETE FROM gpkg_extensions WHERE table_name = ?1 AND column_name = 'tile_data' AND extension_name = 'gpkg_zoom_other' AND definition = 'OGC 12-128r17' AND scope = 'read-write'"

-- ---- tiles

-- whether a tile stands at a zoom level, column and row of a pyramid
abbrev pub has_tile : List ℕ
has_tile = codes "SELECT 1 FROM mm_tiles WHERE table_name = ?1 AND zoom_level = ?2 AND tile_column = ?3 AND tile_row = ?4 LIMIT 1"

-- the id of the blob that a tile names
abbrev pub blob_of_tile : List ℕ
blob_of_tile = codes "SELECT blob FROM mm_tiles WHERE table_name = ?1 AND zoom_level = ?2 AND tile_column = ?3 AND tile_row = ?4 LIMIT 1"

-- puts a tile where none stands: its place, and the id of its blob
abbrev pub insert_tile : List ℕ
insert_tile = codes "INSERT INTO mm_tiles (table_name, zoom_level, tile_column, tile_row, blob) VALUES (?1, ?2, ?3, ?4, ?5)"

-- sets the blob that a tile names
abbrev pub update_tile : List ℕ
update_tile = codes "UPDATE mm_tiles SET blob = ?5 WHERE table_name = ?1 AND zoom_level = ?2 AND tile_column = ?3 AND tile_row = ?4"

-- removes a tile; its blob stays
abbrev pub delete_tile : List ℕ
delete_tile = codes "DELETE FROM mm_tiles WHERE table_name = ?1 AND zoom_level = ?2 AND tile_column = ?3 AND tile_row = ?4"

-- ---- attribute rows

-- whether an attribute row of the table has the id
abbrev pub has_row : List ℕ
has_row = codes "SELECT 1 FROM mm_rows WHERE table_name = ?1 AND id = ?2 LIMIT 1"

-- title, note and amount of an attribute row
abbrev pub row_values : List ℕ
row_values = codes "SELECT title, note, amount FROM mm_rows WHERE table_name = ?1 AND id = ?2 LIMIT 1"

-- puts an attribute row where none has the id: its table, id, title, note and amount
abbrev pub insert_row : List ℕ
insert_row = codes "INSERT INTO mm_rows (table_name, id, title, note, amount) VALUES (?1, ?2, ?3, ?4, ?5)"

-- sets title, note and amount of an attribute row
abbrev pub update_row : List ℕ
update_row = codes "UPDATE mm_rows SET title = ?3, note = ?4, amount = ?5 WHERE table_name = ?1 AND id = ?2"

-- removes an attribute row
abbrev pub delete_row : List ℕ
delete_row = codes "DELETE FROM mm_rows WHERE table_name = ?1 AND id = ?2"

-- ---- media

-- whether a medium of the table has the id
abbrev pub has_medium : List ℕ
has_medium = codes "SELECT 1 FROM mm_media WHERE table_name = ?1 AND id = ?2 LIMIT 1"

-- the id of the blob that a medium names, and its content type
abbrev pub medium_values : List ℕ
medium_values = codes "SELECT blob, content_type FROM mm_media WHERE table_name = ?1 AND id = ?2 LIMIT 1"

-- puts a medium where none has the id: its table, id, blob and content type
abbrev pub insert_medium : List ℕ
insert_medium = codes "INSERT INTO mm_media (table_name, id, blob, content_type) VALUES (?1, ?2, ?3, ?4)"

-- sets the blob that a medium names, and its content type
abbrev pub update_medium : List ℕ
update_medium = codes "UPDATE mm_media SET blob = ?3, content_type = ?4 WHERE table_name = ?1 AND id = ?2"

-- removes a medium; its blob stays
abbrev pub delete_medium : List ℕ
delete_medium = codes "DELETE FROM mm_media WHERE table_name = ?1 AND id = ?2"

-- ---- relations

-- whether a relation has the mapping
abbrev pub has_relation : List ℕ
has_relation = codes "SELECT 1 FROM gpkgext_relations WHERE mapping_table_name = ?1 LIMIT 1"

-- the base table and the related table of a relation
abbrev pub ends_of_relation : List ℕ
ends_of_relation = codes "SELECT base_table_name, related_table_name FROM gpkgext_relations WHERE mapping_table_name = ?1 LIMIT 1"

-- whether the table is the base or the related table of a relation
abbrev pub uses_table : List ℕ
uses_table = codes "SELECT 1 FROM gpkgext_relations WHERE base_table_name = ?1 OR related_table_name = ?1 LIMIT 1"

-- puts a relation: its base table, related table, name and mapping; the store chooses the id
abbrev pub insert_relation : List ℕ
insert_relation = codes "INSERT INTO gpkgext_relations (base_table_name, base_primary_column, related_table_name, related_primary_column, relation_name, mapping_table_name) VALUES (?1, 'id', ?2, 'id', ?3, ?4)"

-- removes a relation, and by CASCADE its mapping rows
abbrev pub delete_relation : List ℕ
delete_relation = codes "DELETE FROM gpkgext_relations WHERE mapping_table_name = ?1"

-- ---- mapping rows

-- whether the mapping row stands
abbrev pub has_pairing : List ℕ
has_pairing = codes "SELECT 1 FROM mm_map WHERE mapping = ?1 AND base_id = ?2 AND related_id = ?3 LIMIT 1"

-- puts a mapping row: its mapping, base id and related id
abbrev pub insert_pairing : List ℕ
insert_pairing = codes "INSERT INTO mm_map (mapping, base_id, related_id) VALUES (?1, ?2, ?3)"

-- removes a mapping row
abbrev pub delete_pairing : List ℕ
delete_pairing = codes "DELETE FROM mm_map WHERE mapping = ?1 AND base_id = ?2 AND related_id = ?3"

-- ---- editions

-- the state of an edition, open or published
abbrev pub state_of_edition : List ℕ
state_of_edition = codes "SELECT state FROM mm_editions WHERE name = ?1 LIMIT 1"

-- puts an edition, which is open
abbrev pub insert_edition : List ℕ
insert_edition = codes "INSERT INTO mm_editions (name, state) VALUES (?1, 'open')"

-- makes an edition published
abbrev pub close_edition : List ℕ
close_edition = codes "UPDATE mm_editions SET state = 'published' WHERE name = ?1"

-- removes an edition, and by CASCADE its pieces; their blobs stay
abbrev pub delete_edition : List ℕ
delete_edition = codes "DELETE FROM mm_editions WHERE name = ?1"

-- ---- staged pieces

-- the greatest number that a piece of an edition has
abbrev pub last_piece : List ℕ
last_piece = codes "SELECT piece_no FROM mm_pieces WHERE edition = ?1 ORDER BY piece_no DESC LIMIT 1"

-- the columns of a staged piece behind its key
abbrev pub piece_columns : List ℕ
piece_columns = codes "SELECT kind, name, k1, k2, k3, k4, k5, k6, k7, t1, t2, blob FROM mm_pieces WHERE edition = ?1 AND piece_no = ?2 LIMIT 1"

-- puts a staged piece: its edition, number and the columns behind its key
abbrev pub insert_piece : List ℕ
insert_piece = codes "INSERT INTO mm_pieces (edition, piece_no, kind, name, k1, k2, k3, k4, k5, k6, k7, t1, t2, blob) VALUES (?1, ?2, ?3, ?4, ?5, ?6, ?7, ?8, ?9, ?10, ?11, ?12, ?13, ?14)"

-- removes all pieces of an edition; their blobs stay
abbrev pub delete_pieces : List ℕ
delete_pieces = codes "DELETE FROM mm_pieces WHERE edition = ?1"

-- ---- blobs

-- the id of the blob of given bytes: found by their digest, and compared byte by byte
abbrev pub blob_of_bytes : List ℕ
blob_of_bytes = codes "SELECT id FROM mm_blobs WHERE digest = ?1 AND data = ?2 LIMIT 1"

-- the bytes of a blob
abbrev pub bytes_of_blob : List ℕ
bytes_of_blob = codes "SELECT data FROM mm_blobs WHERE id = ?1 LIMIT 1"

-- puts a blob: its digest and its bytes; the store chooses the id
abbrev pub insert_blob : List ℕ
insert_blob = codes "INSERT INTO mm_blobs (digest, data) VALUES (?1, ?2)"

-- removes a blob, which nothing may name
abbrev pub delete_blob : List ℕ
delete_blob = codes "DELETE FROM mm_blobs WHERE id = ?1"

-- whether a tile names the blob
abbrev pub tile_of_blob : List ℕ
tile_of_blob = codes "SELECT 1 FROM mm_tiles WHERE blob = ?1 LIMIT 1"

-- whether a medium names the blob
abbrev pub medium_of_blob : List ℕ
medium_of_blob = codes "SELECT 1 FROM mm_media WHERE blob = ?1 LIMIT 1"

-- whether a staged piece names the blob
abbrev pub piece_of_blob : List ℕ
piece_of_blob = codes "SELECT 1 FROM mm_pieces WHERE blob = ?1 LIMIT 1"

-- the ids of the blobs that the tiles of a table name
abbrev pub blobs_of_tiles : List ℕ
blobs_of_tiles = codes "SELECT blob FROM mm_tiles WHERE table_name = ?1"

-- the ids of the blobs that the media of a table name
abbrev pub blobs_of_media : List ℕ
blobs_of_media = codes "SELECT blob FROM mm_media WHERE table_name = ?1"

-- the ids of the blobs that the pieces of an edition name
abbrev pub blobs_of_pieces : List ℕ
blobs_of_pieces = codes "SELECT blob FROM mm_pieces WHERE edition = ?1 AND blob IS NOT NULL"

-- the blobs that nothing names
abbrev pub unnamed_blobs : List ℕ
unnamed_blobs = codes "SELECT b.id FROM mm_blobs AS b WHERE NOT EXISTS (SELECT 1 FROM mm_tiles AS t WHERE t.blob = b.id) AND NOT EXISTS (SELECT 1 FROM mm_media AS m WHERE m.blob = b.id) AND NOT EXISTS (SELECT 1 FROM mm_pieces AS p WHERE p.blob = b.id)"

-- blobs that hold the same
abbrev pub equal_blobs : List ℕ
equal_blobs = codes "SELECT a.id FROM mm_blobs AS a JOIN mm_blobs AS b ON b.digest = a.digest WHERE b.id > a.id AND b.data = a.data"
