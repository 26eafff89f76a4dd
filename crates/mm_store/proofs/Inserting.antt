-- The INSERT statements.
use Rattle.std.proofs.Common.{[], ◌∷◌, codes, refl}
use Rattle.sqlite.specs.declared.types.Value.TheVariants.{Null, Text}
use Rattle.sqlite.specs.Term.{lit, col}
use Rattle.sqlite.specs.Listing.{understood}
use Rattle.sql_forms.specs.Compute.{everything}
use Rattle.sql_forms.proofs.Inserts.{IsInsert}
use Rattle.mm_store.specs.Tables.{schema, gpkg_spatial_ref_sys, gpkg_contents, gpkg_tile_matrix_set, gpkg_tile_matrix}
use Rattle.mm_store.specs.Tables.{gpkg_extensions, gpkgext_relations, mm_profile, mm_tables, mm_tiles, mm_rows}
use Rattle.mm_store.specs.Tables.{mm_media, mm_map, mm_editions, mm_pieces, mm_blobs}
use Rattle.mm_store.specs.Compiled as text

pub insert_profile : IsInsert schema text.insert_profile 6 mm_profile (col 0 0 ∷ lit Null ∷ col 0 1 ∷ []) 3
unfolding understood everything
insert_profile = record {
  compiled = refl;
  plain = (refl, refl);
  placed = refl;
  unstamped = λ params. refl;
  uncounted = refl;
  one = λ params. refl;
  idle = λ new. refl;
}

pub insert_system : IsInsert schema text.insert_system 0 gpkg_spatial_ref_sys
    (col 0 1 ∷ col 0 0 ∷ lit Null ∷ col 0 2 ∷ col 0 3 ∷ col 0 4 ∷ col 0 5 ∷ []) 7
unfolding understood everything
insert_system = record {
  compiled = refl;
  plain = (refl, refl);
  placed = refl;
  unstamped = λ params. refl;
  uncounted = refl;
  one = λ params. refl;
  idle = λ new. refl;
}

pub insert_pyramid_contents : IsInsert schema text.insert_pyramid_contents 1 gpkg_contents (lit Null ∷ col 0 0 ∷ lit (Text (codes "tiles")) ∷ col 0 1 ∷ lit (Text (codes "")) ∷ col 0 2 ∷ col 0 3 ∷ col 0 4 ∷ col 0 5 ∷ col 0 6 ∷ col 0 7 ∷ []) 11
unfolding understood everything
insert_pyramid_contents = record {
  compiled = refl;
  plain = (refl, refl);
  placed = refl;
  unstamped = λ params. refl;
  uncounted = refl;
  one = λ params. refl;
  idle = λ new. refl;
}

pub insert_plain_contents : IsInsert schema text.insert_plain_contents 1 gpkg_contents (lit Null ∷ col 0 0 ∷ lit (Text (codes "attributes")) ∷ col 0 1 ∷ lit (Text (codes "")) ∷ col 0 2 ∷ lit Null ∷ lit Null ∷ lit Null ∷ lit Null ∷ lit Null ∷ []) 11
unfolding understood everything
insert_plain_contents = record {
  compiled = refl;
  plain = (refl, refl);
  placed = refl;
  unstamped = λ params. refl;
  uncounted = refl;
  one = λ params. refl;
  idle = λ new. refl;
}

pub insert_kind : IsInsert schema text.insert_kind 7 mm_tables (lit Null ∷ col 0 0 ∷ col 0 1 ∷ []) 3
unfolding understood everything
insert_kind = record {
  compiled = refl;
  plain = (refl, refl);
  placed = refl;
  unstamped = λ params. refl;
  uncounted = refl;
  one = λ params. refl;
  idle = λ new. refl;
}

pub insert_matrix_set : IsInsert schema text.insert_matrix_set 2 gpkg_tile_matrix_set
    (lit Null ∷ col 0 0 ∷ col 0 1 ∷ col 0 2 ∷ col 0 3 ∷ col 0 4 ∷ col 0 5 ∷ []) 7
unfolding understood everything
insert_matrix_set = record {
  compiled = refl;
  plain = (refl, refl);
  placed = refl;
  unstamped = λ params. refl;
  uncounted = refl;
  one = λ params. refl;
  idle = λ new. refl;
}

pub insert_matrix : IsInsert schema text.insert_matrix 3 gpkg_tile_matrix
    (lit Null ∷ col 0 0 ∷ col 0 1 ∷ col 0 2 ∷ col 0 3 ∷ col 0 4 ∷ col 0 5 ∷ col 0 6 ∷ col 0 7 ∷ []) 9
unfolding understood everything
insert_matrix = record {
  compiled = refl;
  plain = (refl, refl);
  placed = refl;
  unstamped = λ params. refl;
  uncounted = refl;
  one = λ params. refl;
  idle = λ new. refl;
}

pub insert_related_row : IsInsert schema text.insert_related_row 4 gpkg_extensions (lit Null ∷ col 0 0 ∷ lit Null ∷ lit (Text (codes "gpkg_related_tables")) ∷ lit (Text (codes "OGC 18-000")) ∷ lit (Text (codes "read-write")) ∷ []) 6
unfolding understood everything
insert_related_row = record {
  compiled = refl;
  plain = (refl, refl);
  placed = refl;
  unstamped = λ params. refl;
  uncounted = refl;
  one = λ params. refl;
  idle = λ new. refl;
}

pub insert_zoom_row : IsInsert schema text.insert_zoom_row 4 gpkg_extensions (lit Null ∷ col 0 0 ∷ lit (Text (codes "tile_data")) ∷ lit (Text (codes "gpkg_zoom_other")) ∷ lit (Text (codes "OGC 12-128r17")) ∷ lit (Text (codes "read-write")) ∷ []) 6
unfolding understood everything
insert_zoom_row = record {
  compiled = refl;
  plain = (refl, refl);
  placed = refl;
  unstamped = λ params. refl;
  uncounted = refl;
  one = λ params. refl;
  idle = λ new. refl;
}

pub insert_tile : IsInsert schema text.insert_tile 8 mm_tiles (lit Null ∷ col 0 0 ∷ col 0 1 ∷ col 0 2 ∷ col 0 3
    ∷ col 0 4 ∷ []) 6
unfolding understood everything
insert_tile = record {
  compiled = refl;
  plain = (refl, refl);
  placed = refl;
  unstamped = λ params. refl;
  uncounted = refl;
  one = λ params. refl;
  idle = λ new. refl;
}

pub insert_row : IsInsert schema text.insert_row 9 mm_rows (lit Null ∷ col 0 0 ∷ col 0 1 ∷ col 0 2 ∷ col 0 3 ∷ col 0 4
    ∷ []) 6
unfolding understood everything
insert_row = record {
  compiled = refl;
  plain = (refl, refl);
  placed = refl;
  unstamped = λ params. refl;
  uncounted = refl;
  one = λ params. refl;
  idle = λ new. refl;
}

pub insert_medium : IsInsert schema text.insert_medium 10 mm_media (lit Null ∷ col 0 0 ∷ col 0 1 ∷ col 0 2 ∷ col 0 3
    ∷ []) 5
unfolding understood everything
insert_medium = record {
  compiled = refl;
  plain = (refl, refl);
  placed = refl;
  unstamped = λ params. refl;
  uncounted = refl;
  one = λ params. refl;
  idle = λ new. refl;
}

pub insert_relation : IsInsert schema text.insert_relation 5 gpkgext_relations (lit Null ∷ lit Null ∷ col 0 0 ∷ lit (Text (codes "id")) ∷ col 0 1 ∷ lit (Text (codes "id")) ∷ col 0 2 ∷ col 0 3 ∷ []) 8
unfolding understood everything
insert_relation = record {
  compiled = refl;
  plain = (refl, refl);
  placed = refl;
  unstamped = λ params. refl;
  uncounted = refl;
  one = λ params. refl;
  idle = λ new. refl;
}

pub insert_pairing : IsInsert schema text.insert_pairing 11 mm_map (lit Null ∷ col 0 0 ∷ col 0 1 ∷ col 0 2 ∷ []) 4
unfolding understood everything
insert_pairing = record {
  compiled = refl;
  plain = (refl, refl);
  placed = refl;
  unstamped = λ params. refl;
  uncounted = refl;
  one = λ params. refl;
  idle = λ new. refl;
}

pub insert_edition : IsInsert schema text.insert_edition 12 mm_editions (lit Null ∷ col 0 0 ∷ lit (Text (codes "open")) ∷ []) 3
unfolding understood everything
insert_edition = record {
  compiled = refl;
  plain = (refl, refl);
  placed = refl;
  unstamped = λ params. refl;
  uncounted = refl;
  one = λ params. refl;
  idle = λ new. refl;
}

pub insert_piece : IsInsert schema text.insert_piece 13 mm_pieces (lit Null ∷ col 0 0 ∷ col 0 1 ∷ col 0 2 ∷ col 0 3
    ∷ col 0 4 ∷ col 0 5 ∷ col 0 6 ∷ col 0 7 ∷ col 0 8 ∷ col 0 9 ∷ col 0 10 ∷ col 0 11 ∷ col 0 12 ∷ col 0 13 ∷ []) 15
unfolding understood everything
insert_piece = record {
  compiled = refl;
  plain = (refl, refl);
  placed = refl;
  unstamped = λ params. refl;
  uncounted = refl;
  one = λ params. refl;
  idle = λ new. refl;
}

pub insert_blob : IsInsert schema text.insert_blob 14 mm_blobs (lit Null ∷ lit Null ∷ col 0 0 ∷ col 0 1 ∷ []) 4
unfolding understood everything
insert_blob = record {
  compiled = refl;
  plain = (refl, refl);
  placed = refl;
  unstamped = λ params. refl;
  uncounted = refl;
  one = λ params. refl;
  idle = λ new. refl;
}
