use Rattle.mm_store.proofs.Defined as text
use Rattle.mm_store.proofs.schema.texts_define_tables.Goals as goal

pub returns : goal.returns
returns c = (
  text.gpkg_spatial_ref_sys,
  (
    text.gpkg_contents,
    (
      text.gpkg_tile_matrix_set,
      (
        text.gpkg_tile_matrix,
        (
          text.gpkg_extensions,
          (
            text.gpkgext_relations,
            (
              text.mm_profile,
              (
                text.mm_tables,
                (
                  text.mm_tiles,
                  (
                    text.mm_rows,
                    (
                      text.mm_media,
                      (
                        text.mm_map,
                        (text.mm_editions, (text.mm_pieces, (text.mm_blobs, tt))),
                      ),
                    ),
                  ),
                ),
              ),
            ),
          ),
        ),
      ),
    ),
  ),
)
