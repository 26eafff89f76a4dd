-- What the four statements make of a package.
use Rattle.std.proofs.Common.{◌≡◌, ℤ, pos, [], ◌∷◌, map, refl, ap, ◌∙◌}
use Rattle.sqlite.specs.declared.types.Value.TheVariants.{Null, Int}
use Rattle.sqlite.specs.Order.{Row}
use Rattle.sqlite.specs.Tree.{Trees, with_tree}
use Rattle.sql_forms.proofs.Casts.{cast_row_is}
use Rattle.sql_forms.proofs.Updates.{updated}
use Rattle.mm_store.specs.Tables.{gpkg_contents, gpkg_tile_matrix_set, gpkg_tile_matrix, mm_profile}
use Rattle.mm_definitions.specs.Bounds.{millimetres}
use Rattle.mm_definitions.specs.Parts.{Each}
use Rattle.mm_definitions.specs.Package.{Package}
use Rattle.mm_definitions.specs.Rules.{ContentsWithin, SetWithin, MatrixWithin}
use Rattle.mm_definitions.specs.Parts.{change_values}
use Rattle.mm_definitions.specs.Scale.{finer_contents, finer_set, finer_grid}
use Rattle.mm_store.specs.Rows.{past_rowid, contents_row, set_row, grid_row}
use Rattle.mm_store.specs.Stands.{Holding, profile_row}
use Rattle.mm_store.proofs.Keys as parts
use Rattle.mm_store.proofs.Puts.{put_contents, put_sets, put_matrices}
use Rattle.mm_migrate.specs.Texts.{contents_sets, set_sets, matrix_sets, version_sets}
use Rattle.mm_migrate.proofs.AllRows.{all_change}
use Rattle.mm_migrate.proofs.Rows.{contents_becomes, set_becomes, matrix_becomes}

module _ (version : ℤ) (db : Trees) (p : Package) (h : Holding version db p) where
  pub contents : Each p.contents (ContentsWithin millimetres)
      → Holding version (with_tree db 1 (map (updated gpkg_contents contents_sets []) (db 1)))
      (record p { contents = change_values finer_contents p.contents })
  contents within = put_contents version db p h _ _
      (all_change past_rowid contents_row parts.contents.key_is (db 1) p.contents h.contents
      (updated gpkg_contents contents_sets []) finer_contents (ContentsWithin millimetres) within contents_becomes)

  pub sets : Each p.sets (SetWithin millimetres)
      → Holding version (with_tree db 4 (map (updated gpkg_tile_matrix_set set_sets []) (db 4)))
      (record p { sets = change_values finer_set p.sets })
  sets within = put_sets version db p h _ _
      (all_change past_rowid set_row parts.sets.key_is (db 4) p.sets h.sets (updated gpkg_tile_matrix_set set_sets [])
      finer_set (SetWithin millimetres) within set_becomes)

  pub matrices : Each p.matrices (MatrixWithin millimetres)
      → Holding version (with_tree db 6 (map (updated gpkg_tile_matrix matrix_sets []) (db 6)))
      (record p { matrices = change_values finer_grid p.matrices })
  matrices within = put_matrices version db p h _ _
      (all_change past_rowid grid_row parts.matrices.key_is (db 6) p.matrices h.matrices
      (updated gpkg_tile_matrix matrix_sets []) finer_grid (MatrixWithin millimetres) within matrix_becomes)

  -- the one row of the profile names the other version, and each part is as it was
  pub renamed : Holding (pos 2) (with_tree db 12 (map (updated mm_profile version_sets []) (db 12))) p
  renamed = record {
    systems = h.systems;
    contents = h.contents;
    kinds = h.kinds;
    sets = h.sets;
    matrices = h.matrices;
    extensions = h.extensions;
    rows = h.rows;
    relations = h.relations;
    pairings = h.pairings;
    editions = h.editions;
    kept = h.kept;
    keeps = record {
      tiles = h.keeps.tiles;
      media = h.keeps.media;
      pieces = h.keeps.pieces;
      blobs = h.keeps.blobs;
      tiles_told = h.keeps.tiles_told;
      media_told = h.keeps.media_told;
      pieces_told = h.keeps.pieces_told;
      are = h.keeps.are;
      named = h.keeps.named;
    };
    profile = ap (map (updated mm_profile version_sets [])) h.profile ∙ became;
  }
    where
      became : map (updated mm_profile version_sets []) (profile_row version ∷ []) ≡ profile_row (pos 2) ∷ []
      became = ap (λ (r : Row). r ∷ []) (cast_row_is mm_profile (Int (pos 1)) (Null ∷ Int (pos 2) ∷ []) refl refl)
