-- The DELETE statements that take nothing along.
use Rattle.std.proofs.Common.{◌≡◌, [], ◌∷◌, codes, true, refl}
use Rattle.sql_forms.specs.Keys.{joined, first_key}
use Rattle.sql_forms.specs.Names.{same_name}
use Rattle.sql_forms.specs.TableKeys.TheVariants.{Enforced}
use Rattle.sqlite.specs.Listing.{understood}
use Rattle.sql_forms.specs.Compute.{everything}
use Rattle.sql_forms.specs.Cascade.{is_childless}
use Rattle.sql_forms.specs.Forms.{equals, reads, is_absent}
use Rattle.sql_forms.proofs.Deletes.{IsDelete}
use Rattle.mm_store.specs.Tables.{schema, gpkg_extensions, mm_tiles, mm_rows, mm_media, mm_map, mm_pieces, mm_blobs}
use Rattle.mm_store.specs.Compiled as text

childless_gpkg_extensions : is_childless schema Enforced gpkg_extensions.tree ≡ true
unfolding same_name joined first_key
childless_gpkg_extensions = refl

pub delete_related_row : IsDelete schema text.delete_related_row 4 gpkg_extensions (equals 1 0 ∷ is_absent 2 ∷ reads 3 (codes "gpkg_related_tables") ∷ reads 4 (codes "OGC 18-000") ∷ reads 5 (codes "read-write") ∷ [])
unfolding understood everything
delete_related_row = record {
  compiled = refl;
  plain = (refl, refl);
  placed = refl;
  childless = childless_gpkg_extensions;
}

pub delete_zoom_row : IsDelete schema text.delete_zoom_row 4 gpkg_extensions (equals 1 0 ∷ reads 2 (codes "tile_data") ∷ reads 3 (codes "gpkg_zoom_other") ∷ reads 4 (codes "OGC 12-128r17") ∷ reads 5 (codes "read-write") ∷ [])
unfolding understood everything
delete_zoom_row = record { compiled = refl; plain = (refl, refl); placed = refl; childless = childless_gpkg_extensions }

childless_mm_tiles : is_childless schema Enforced mm_tiles.tree ≡ true
unfolding same_name joined first_key
childless_mm_tiles = refl

pub delete_tile : IsDelete schema text.delete_tile 8 mm_tiles (equals 1 0 ∷ equals 2 1 ∷ equals 3 2 ∷ equals 4 3 ∷ [])
unfolding understood everything
delete_tile = record { compiled = refl; plain = (refl, refl); placed = refl; childless = childless_mm_tiles }

childless_mm_rows : is_childless schema Enforced mm_rows.tree ≡ true
unfolding same_name joined first_key
childless_mm_rows = refl

pub delete_row : IsDelete schema text.delete_row 9 mm_rows (equals 1 0 ∷ equals 2 1 ∷ [])
unfolding understood everything
delete_row = record { compiled = refl; plain = (refl, refl); placed = refl; childless = childless_mm_rows }

childless_mm_media : is_childless schema Enforced mm_media.tree ≡ true
unfolding same_name joined first_key
childless_mm_media = refl

pub delete_medium : IsDelete schema text.delete_medium 10 mm_media (equals 1 0 ∷ equals 2 1 ∷ [])
unfolding understood everything
delete_medium = record { compiled = refl; plain = (refl, refl); placed = refl; childless = childless_mm_media }

childless_mm_map : is_childless schema Enforced mm_map.tree ≡ true
unfolding same_name joined first_key
childless_mm_map = refl

pub delete_pairing : IsDelete schema text.delete_pairing 11 mm_map (equals 1 0 ∷ equals 2 1 ∷ equals 3 2 ∷ [])
unfolding understood everything
delete_pairing = record { compiled = refl; plain = (refl, refl); placed = refl; childless = childless_mm_map }

childless_mm_pieces : is_childless schema Enforced mm_pieces.tree ≡ true
unfolding same_name joined first_key
childless_mm_pieces = refl

pub delete_pieces : IsDelete schema text.delete_pieces 13 mm_pieces (equals 1 0 ∷ [])
unfolding understood everything
delete_pieces = record { compiled = refl; plain = (refl, refl); placed = refl; childless = childless_mm_pieces }

childless_mm_blobs : is_childless schema Enforced mm_blobs.tree ≡ true
unfolding same_name joined first_key
childless_mm_blobs = refl

pub delete_blob : IsDelete schema text.delete_blob 14 mm_blobs (equals 0 0 ∷ [])
unfolding understood everything
delete_blob = record { compiled = refl; plain = (refl, refl); placed = refl; childless = childless_mm_blobs }
