-- Each text defines its table.
use Rattle.std.proofs.Common.{◌≡◌, Ok, refl}
use Rattle.sql_forms.specs.Compute.{everything}
use Rattle.sqlite.specs.Compile.{table_defined_by}
use Rattle.mm_store.specs.Tables as tables
use Rattle.mm_store.specs.Creates as texts

pub gpkg_spatial_ref_sys : table_defined_by texts.create_gpkg_spatial_ref_sys
    ≡ Ok (record tables.gpkg_spatial_ref_sys { tree = 0 })
unfolding everything
gpkg_spatial_ref_sys = refl

pub gpkg_contents : table_defined_by texts.create_gpkg_contents ≡ Ok (record tables.gpkg_contents { tree = 0 })
unfolding everything
gpkg_contents = refl

pub gpkg_tile_matrix_set : table_defined_by texts.create_gpkg_tile_matrix_set
    ≡ Ok (record tables.gpkg_tile_matrix_set { tree = 0 })
unfolding everything
gpkg_tile_matrix_set = refl

pub gpkg_tile_matrix : table_defined_by texts.create_gpkg_tile_matrix ≡ Ok (record tables.gpkg_tile_matrix { tree = 0 })
unfolding everything
gpkg_tile_matrix = refl

pub gpkg_extensions : table_defined_by texts.create_gpkg_extensions ≡ Ok (record tables.gpkg_extensions { tree = 0 })
unfolding everything
gpkg_extensions = refl

pub gpkgext_relations : table_defined_by texts.create_gpkgext_relations
    ≡ Ok (record tables.gpkgext_relations { tree = 0 })
unfolding everything
gpkgext_relations = refl

pub mm_profile : table_defined_by texts.create_mm_profile ≡ Ok (record tables.mm_profile { tree = 0 })
unfolding everything
mm_profile = refl

pub mm_tables : table_defined_by texts.create_mm_tables ≡ Ok (record tables.mm_tables { tree = 0 })
unfolding everything
mm_tables = refl

pub mm_tiles : table_defined_by texts.create_mm_tiles ≡ Ok (record tables.mm_tiles { tree = 0 })
unfolding everything
mm_tiles = refl

pub mm_rows : table_defined_by texts.create_mm_rows ≡ Ok (record tables.mm_rows { tree = 0 })
unfolding everything
mm_rows = refl

pub mm_media : table_defined_by texts.create_mm_media ≡ Ok (record tables.mm_media { tree = 0 })
unfolding everything
mm_media = refl

pub mm_map : table_defined_by texts.create_mm_map ≡ Ok (record tables.mm_map { tree = 0 })
unfolding everything
mm_map = refl

pub mm_editions : table_defined_by texts.create_mm_editions ≡ Ok (record tables.mm_editions { tree = 0 })
unfolding everything
mm_editions = refl

pub mm_pieces : table_defined_by texts.create_mm_pieces ≡ Ok (record tables.mm_pieces { tree = 0 })
unfolding everything
mm_pieces = refl

pub mm_blobs : table_defined_by texts.create_mm_blobs ≡ Ok (record tables.mm_blobs { tree = 0 })
unfolding everything
mm_blobs = refl
