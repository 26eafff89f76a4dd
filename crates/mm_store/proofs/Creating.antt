-- The CREATE statements, each on the tables that are there before it.
use Rattle.std.proofs.Common.{◌≡◌, refl}
use Rattle.sqlite.specs.Listing.{understood}
use Rattle.sql_forms.specs.Compute.{everything}
use Rattle.sql_forms.proofs.Creates.{IsCreate, IsIndexing}
use Rattle.mm_store.specs.Tables as tables
use Rattle.mm_store.specs.Made.{first_tables, unplaced, unplaced_index, with_digest, with_tiles, with_media}
use Rattle.mm_store.specs.Made.{with_pieces, with_related}
use Rattle.mm_store.specs.Creates as texts

pub gpkg_spatial_ref_sys : IsCreate (first_tables 0) texts.create_gpkg_spatial_ref_sys
    (unplaced tables.gpkg_spatial_ref_sys) (first_tables 1)
unfolding understood everything
gpkg_spatial_ref_sys = record {
  compiled = refl;
  said = refl;
  plain = (refl, refl);
  defined = refl;
  becomes = refl;
  uncounted = refl;
}

pub gpkg_contents : IsCreate (first_tables 1) texts.create_gpkg_contents (unplaced tables.gpkg_contents)
    (first_tables 2)
unfolding understood everything
gpkg_contents = record {
  compiled = refl;
  said = refl;
  plain = (refl, refl);
  defined = refl;
  becomes = refl;
  uncounted = refl;
}

pub gpkg_tile_matrix_set : IsCreate (first_tables 2) texts.create_gpkg_tile_matrix_set
    (unplaced tables.gpkg_tile_matrix_set) (first_tables 3)
unfolding understood everything
gpkg_tile_matrix_set = record {
  compiled = refl;
  said = refl;
  plain = (refl, refl);
  defined = refl;
  becomes = refl;
  uncounted = refl;
}

pub gpkg_tile_matrix : IsCreate (first_tables 3) texts.create_gpkg_tile_matrix (unplaced tables.gpkg_tile_matrix)
    (first_tables 4)
unfolding understood everything
gpkg_tile_matrix = record {
  compiled = refl;
  said = refl;
  plain = (refl, refl);
  defined = refl;
  becomes = refl;
  uncounted = refl;
}

pub gpkg_extensions : IsCreate (first_tables 4) texts.create_gpkg_extensions (unplaced tables.gpkg_extensions)
    (first_tables 5)
unfolding understood everything
gpkg_extensions = record {
  compiled = refl;
  said = refl;
  plain = (refl, refl);
  defined = refl;
  becomes = refl;
  uncounted = refl;
}

pub gpkgext_relations : IsCreate (first_tables 5) texts.create_gpkgext_relations (unplaced tables.gpkgext_relations)
    (first_tables 6)
unfolding understood everything
gpkgext_relations = record {
  compiled = refl;
  said = refl;
  plain = (refl, refl);
  defined = refl;
  becomes = refl;
  uncounted = refl;
}

pub mm_profile : IsCreate (first_tables 6) texts.create_mm_profile (unplaced tables.mm_profile) (first_tables 7)
unfolding understood everything
mm_profile = record {
  compiled = refl;
  said = refl;
  plain = (refl, refl);
  defined = refl;
  becomes = refl;
  uncounted = refl;
}

pub mm_tables : IsCreate (first_tables 7) texts.create_mm_tables (unplaced tables.mm_tables) (first_tables 8)
unfolding understood everything
mm_tables = record {
  compiled = refl;
  said = refl;
  plain = (refl, refl);
  defined = refl;
  becomes = refl;
  uncounted = refl;
}

pub mm_tiles : IsCreate (first_tables 8) texts.create_mm_tiles (unplaced tables.mm_tiles) (first_tables 9)
unfolding understood everything
mm_tiles = record {
  compiled = refl;
  said = refl;
  plain = (refl, refl);
  defined = refl;
  becomes = refl;
  uncounted = refl;
}

pub mm_rows : IsCreate (first_tables 9) texts.create_mm_rows (unplaced tables.mm_rows) (first_tables 10)
unfolding understood everything
mm_rows = record {
  compiled = refl;
  said = refl;
  plain = (refl, refl);
  defined = refl;
  becomes = refl;
  uncounted = refl;
}

pub mm_media : IsCreate (first_tables 10) texts.create_mm_media (unplaced tables.mm_media) (first_tables 11)
unfolding understood everything
mm_media = record {
  compiled = refl;
  said = refl;
  plain = (refl, refl);
  defined = refl;
  becomes = refl;
  uncounted = refl;
}

pub mm_map : IsCreate (first_tables 11) texts.create_mm_map (unplaced tables.mm_map) (first_tables 12)
unfolding understood everything
mm_map = record { compiled = refl; said = refl; plain = (refl, refl); defined = refl; becomes = refl; uncounted = refl }

pub mm_editions : IsCreate (first_tables 12) texts.create_mm_editions (unplaced tables.mm_editions) (first_tables 13)
unfolding understood everything
mm_editions = record {
  compiled = refl;
  said = refl;
  plain = (refl, refl);
  defined = refl;
  becomes = refl;
  uncounted = refl;
}

pub mm_pieces : IsCreate (first_tables 13) texts.create_mm_pieces (unplaced tables.mm_pieces) (first_tables 14)
unfolding understood everything
mm_pieces = record {
  compiled = refl;
  said = refl;
  plain = (refl, refl);
  defined = refl;
  becomes = refl;
  uncounted = refl;
}

pub mm_blobs : IsCreate (first_tables 14) texts.create_mm_blobs (unplaced tables.mm_blobs) (first_tables 15)
unfolding understood everything
mm_blobs = record {
  compiled = refl;
  said = refl;
  plain = (refl, refl);
  defined = refl;
  becomes = refl;
  uncounted = refl;
}

-- ---- the indexes

pub mm_blobs_digest : IsIndexing (first_tables 15) texts.create_mm_blobs_digest 14 tables.mm_blobs
    (unplaced_index tables.mm_blobs_digest) with_digest
unfolding understood everything
mm_blobs_digest = record {
  compiled = refl;
  said = refl;
  plain = (refl, refl);
  placed = refl;
  defined = refl;
  becomes = refl;
}

pub mm_tiles_blob : IsIndexing with_digest texts.create_mm_tiles_blob 8 tables.mm_tiles
    (unplaced_index tables.mm_tiles_blob) with_tiles
unfolding understood everything
mm_tiles_blob = record {
  compiled = refl;
  said = refl;
  plain = (refl, refl);
  placed = refl;
  defined = refl;
  becomes = refl;
}

pub mm_media_blob : IsIndexing with_tiles texts.create_mm_media_blob 10 tables.mm_media
    (unplaced_index tables.mm_media_blob) with_media
unfolding understood everything
mm_media_blob = record {
  compiled = refl;
  said = refl;
  plain = (refl, refl);
  placed = refl;
  defined = refl;
  becomes = refl;
}

pub mm_pieces_blob : IsIndexing with_media texts.create_mm_pieces_blob 13 tables.mm_pieces
    (unplaced_index tables.mm_pieces_blob) with_pieces
unfolding understood everything
mm_pieces_blob = record {
  compiled = refl;
  said = refl;
  plain = (refl, refl);
  placed = refl;
  defined = refl;
  becomes = refl;
}

pub mm_map_related : IsIndexing with_pieces texts.create_mm_map_related 11 tables.mm_map
    (unplaced_index tables.mm_map_related) with_related
unfolding understood everything
mm_map_related = record {
  compiled = refl;
  said = refl;
  plain = (refl, refl);
  placed = refl;
  defined = refl;
  becomes = refl;
}

pub all_made : with_related ≡ tables.schema
all_made = refl
