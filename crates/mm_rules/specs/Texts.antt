-- The queries of the rules 1 to 14.
use Rattle.std.specs.Prelude.{ℕ, List, codes}

-- of each tile its column and row, with the sides of the matrix at its zoom level, if one stands
abbrev pub tiles_inside : List ℕ
tiles_inside = codes "SELECT t.tile_column, t.tile_row, m.matrix_width, m.matrix_height FROM mm_tiles AS t LEFT JOIN gpkg_tile_matrix AS m ON m.table_name = t.table_name AND m.zoom_level = t.zoom_level ORDER BY t.table_name, t.zoom_level, t.tile_column, t.tile_row"

-- each matrix, with the kind of its table and the bounds of the matrix set, if they stand
abbrev pub matrices_fit : List ℕ
matrices_fit = codes "SELECT k.kind, s.min_x, s.min_y, s.max_x, s.max_y, m.matrix_width, m.matrix_height, m.tile_width, m.tile_height, m.pixel_x_size, m.pixel_y_size FROM gpkg_tile_matrix AS m LEFT JOIN mm_tables AS k ON k.table_name = m.table_name LEFT JOIN gpkg_tile_matrix_set AS s ON s.table_name = m.table_name ORDER BY m.table_name, m.zoom_level"

-- the pixel sizes of each two matrices of a pyramid, those at the lower zoom level first
abbrev pub higher_is_finer : List ℕ
higher_is_finer = codes "SELECT a.pixel_x_size, a.pixel_y_size, b.pixel_x_size, b.pixel_y_size FROM gpkg_tile_matrix AS a JOIN gpkg_tile_matrix AS b ON b.table_name = a.table_name AND a.zoom_level < b.zoom_level ORDER BY a.table_name, a.zoom_level"

-- the same with the kind of the pyramid, and with the two zoom levels
abbrev pub next_is_halved : List ℕ
next_is_halved = codes "SELECT k.kind, a.zoom_level, b.zoom_level, a.pixel_x_size, a.pixel_y_size, b.pixel_x_size, b.pixel_y_size FROM gpkg_tile_matrix AS a JOIN gpkg_tile_matrix AS b ON b.table_name = a.table_name AND a.zoom_level < b.zoom_level LEFT JOIN mm_tables AS k ON k.table_name = a.table_name ORDER BY a.table_name, a.zoom_level"

-- the system that each contents row names, if any; its number again where it stands; and the table's kind
abbrev pub contents_systems : List ℕ
contents_systems = codes "SELECT c.srs_id, s.srs_id, k.kind FROM gpkg_contents AS c LEFT JOIN gpkg_spatial_ref_sys AS s ON s.srs_id = c.srs_id LEFT JOIN mm_tables AS k ON k.table_name = c.table_name ORDER BY c.table_name"

-- the same of each matrix set
abbrev pub set_systems : List ℕ
set_systems = codes "SELECT m.srs_id, s.srs_id, k.kind FROM gpkg_tile_matrix_set AS m LEFT JOIN gpkg_spatial_ref_sys AS s ON s.srs_id = m.srs_id LEFT JOIN mm_tables AS k ON k.table_name = m.table_name ORDER BY m.table_name"

-- the tables of each two contents rows with one identifier; a row is also paired with itself
abbrev pub distinct_identifiers : List ℕ
distinct_identifiers = codes "SELECT a.table_name, b.table_name FROM gpkg_contents AS a JOIN gpkg_contents AS b ON b.identifier = a.identifier ORDER BY a.table_name"

-- for each mapping the table of the same name, if there is one
abbrev pub mapping_names : List ℕ
mapping_names = codes "SELECT c.table_name FROM gpkgext_relations AS r LEFT JOIN gpkg_contents AS c ON c.table_name = r.mapping_table_name ORDER BY r.mapping_table_name"

-- for each contents row the kind, the data type, bounds and system, and the bounds and system of the matrix set, if it
-- stands
abbrev pub registered : List ℕ
registered = codes "SELECT k.kind, c.data_type, c.min_x, c.min_y, c.max_x, c.max_y, c.srs_id, s.min_x, s.min_y, s.max_x, s.max_y, s.srs_id FROM gpkg_contents AS c LEFT JOIN mm_tables AS k ON k.table_name = c.table_name LEFT JOIN gpkg_tile_matrix_set AS s ON s.table_name = c.table_name ORDER BY c.table_name"

-- for each table of the registry the contents row, if it stands
abbrev pub kinds_have_contents : List ℕ
kinds_have_contents = codes "SELECT c.table_name FROM mm_tables AS k LEFT JOIN gpkg_contents AS c ON c.table_name = k.table_name ORDER BY k.table_name"

-- for each matrix set the contents row, if it stands
abbrev pub sets_have_contents : List ℕ
sets_have_contents = codes "SELECT c.table_name FROM gpkg_tile_matrix_set AS s LEFT JOIN gpkg_contents AS c ON c.table_name = s.table_name ORDER BY s.table_name"

-- the bounds of each matrix set
abbrev pub set_extents : List ℕ
set_extents = codes "SELECT s.min_x, s.min_y, s.max_x, s.max_y FROM gpkg_tile_matrix_set AS s ORDER BY s.table_name"

-- the bounds of each contents row, NULL where it has none
abbrev pub contents_extents : List ℕ
contents_extents = codes "SELECT c.min_x, c.min_y, c.max_x, c.max_y FROM gpkg_contents AS c ORDER BY c.table_name"

-- for each attribute row the kind of its table
abbrev pub rows_in_tables : List ℕ
rows_in_tables = codes "SELECT k.kind FROM mm_rows AS r LEFT JOIN mm_tables AS k ON k.table_name = r.table_name ORDER BY r.table_name, r.id"

-- for each medium the kind of its table
abbrev pub media_in_tables : List ℕ
media_in_tables = codes "SELECT k.kind FROM mm_media AS m LEFT JOIN mm_tables AS k ON k.table_name = m.table_name ORDER BY m.table_name, m.id"

-- for each relation the kinds of its base and its related table, both primary columns, and its name
abbrev pub relations_suited : List ℕ
relations_suited = codes "SELECT b.kind, c.kind, r.base_primary_column, r.related_primary_column, r.relation_name FROM gpkgext_relations AS r LEFT JOIN mm_tables AS b ON b.table_name = r.base_table_name LEFT JOIN mm_tables AS c ON c.table_name = r.related_table_name ORDER BY r.mapping_table_name"

-- for each mapping row its relation, the attribute row and the medium at its base id, and the two at its related id, as
-- they stand
abbrev pub pairings_join : List ℕ
pairings_join = codes "SELECT r.mapping_table_name, a.id, b.id, c.id, d.id FROM mm_map AS m LEFT JOIN gpkgext_relations AS r ON r.mapping_table_name = m.mapping LEFT JOIN mm_rows AS a ON a.table_name = r.base_table_name AND a.id = m.base_id LEFT JOIN mm_media AS b ON b.table_name = r.base_table_name AND b.id = m.base_id LEFT JOIN mm_rows AS c ON c.table_name = r.related_table_name AND c.id = m.related_id LEFT JOIN mm_media AS d ON d.table_name = r.related_table_name AND d.id = m.related_id ORDER BY m.mapping, m.base_id, m.related_id"

-- the columns beside the number of the systems ?1, ?2 and ?3, as they stand, in one row, since `mm_profile` has one
abbrev pub ask_given_systems : List ℕ
ask_given_systems = codes "SELECT a.srs_name, a.organization, a.organization_coordsys_id, a.definition, a.description, b.srs_name, b.organization, b.organization_coordsys_id, b.definition, b.description, c.srs_name, c.organization, c.organization_coordsys_id, c.definition, c.description FROM mm_profile AS v LEFT JOIN gpkg_spatial_ref_sys AS a ON a.srs_id = ?1 LEFT JOIN gpkg_spatial_ref_sys AS b ON b.srs_id = ?2 LEFT JOIN gpkg_spatial_ref_sys AS c ON c.srs_id = ?3"

-- each extension row, with the mapping of its table's name, if one stands, and the kind of that table, if it has one
abbrev pub extensions_wanted : List ℕ
extensions_wanted = codes "SELECT e.table_name, e.column_name, e.extension_name, e.definition, e.scope, r.mapping_table_name, k.kind FROM gpkg_extensions AS e LEFT JOIN gpkgext_relations AS r ON r.mapping_table_name = e.table_name LEFT JOIN mm_tables AS k ON k.table_name = e.table_name"

-- a row for each two extension rows of a table that are equal in every column
abbrev pub named_once : List ℕ
named_once = codes "SELECT 1 FROM gpkg_extensions AS a JOIN gpkg_extensions AS b ON a.rowid < b.rowid AND b.table_name = a.table_name AND b.column_name IS a.column_name AND b.extension_name IS a.extension_name AND b.definition IS a.definition AND b.scope IS a.scope"

-- a row for each two extension rows without a table that are equal in every other column
abbrev pub unnamed_once : List ℕ
unnamed_once = codes "SELECT 1 FROM gpkg_extensions AS a JOIN gpkg_extensions AS b ON a.rowid < b.rowid AND a.table_name IS NULL AND b.table_name IS NULL AND b.column_name IS a.column_name AND b.extension_name IS a.extension_name AND b.definition IS a.definition AND b.scope IS a.scope"

-- the extension row of `gpkgext_relations`, if it stands, in one row, since `mm_profile` has one
abbrev pub ask_general_extension : List ℕ
ask_general_extension = codes "SELECT e.extension_name FROM mm_profile AS v LEFT JOIN gpkg_extensions AS e ON e.table_name IS 'gpkgext_relations' AND e.column_name IS NULL AND e.extension_name IS 'gpkg_related_tables' AND e.definition IS 'OGC 18-000' AND e.scope IS 'read-write'"

-- for each mapping its extension row, if it stands
abbrev pub mapping_extensions : List ℕ
mapping_extensions = codes "SELECT e.extension_name FROM gpkgext_relations AS r LEFT JOIN gpkg_extensions AS e ON e.table_name = r.mapping_table_name AND e.column_name IS NULL AND e.extension_name IS 'gpkg_related_tables' AND e.definition IS 'OGC 18-000' AND e.scope IS 'read-write' ORDER BY r.mapping_table_name"

-- for each table its kind, and its extension row of other zoom intervals, if it stands
abbrev pub zoom_extensions : List ℕ
zoom_extensions = codes "SELECT k.kind, e.extension_name FROM mm_tables AS k LEFT JOIN gpkg_extensions AS e ON e.table_name = k.table_name AND e.column_name IS 'tile_data' AND e.extension_name IS 'gpkg_zoom_other' AND e.definition IS 'OGC 12-128r17' AND e.scope IS 'read-write' ORDER BY k.table_name"
