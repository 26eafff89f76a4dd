-- A write to one table leaves the other parts of a package.
use Rattle.std.specs.Prelude.{ℕ, ℤ, List, ⊤}
use Rattle.std.specs.Ordering.{int_cmp}
use Rattle.std.specs.FinMap.{FinMap}
use Rattle.sqlite.specs.Order.{Row}
use Rattle.sqlite.specs.Tree.{Trees, with_tree}
use Rattle.sql_forms.specs.Maps.{Holds}
use Rattle.mm_store.specs.Tables.{gpkg_spatial_ref_sys, gpkg_contents, mm_tables, gpkg_tile_matrix_set}
use Rattle.mm_store.specs.Tables.{gpkg_tile_matrix, gpkg_extensions, mm_rows, gpkgext_relations, mm_map, mm_editions}
use Rattle.mm_definitions.specs.Keys.{Text, text_cmp, level_cmp, item_cmp, pairing_cmp, extension_cmp}
use Rattle.mm_definitions.specs.Package.{Package, System, Contents, MatrixSet, Grid, AttributeRow, Relation}
use Rattle.mm_store.specs.Rows.{whole, past_rowid, past_id, system_row, contents_row, kind_row, set_row, grid_row}
use Rattle.mm_store.specs.Rows.{attribute_row, relation_row, pairing_row, edition_row, Counts}
use Rattle.mm_store.specs.Stands.{HoldingBut}
use Rattle.mm_store.specs.Kept.{Spare}

module _ {spare : Spare} (version : ℤ) (tables : Trees) (p : Package) (h : HoldingBut spare version tables p)
    (rows : List Row) where
  pub put_systems : (m : FinMap int_cmp System) → Holds whole system_row rows m
      → HoldingBut spare version (with_tree tables gpkg_spatial_ref_sys.tree rows) (record p { systems = m })
  put_systems m new = record {
    systems = new;
    contents = h.contents;
    kinds = h.kinds;
    sets = h.sets;
    matrices = h.matrices;
    extensions = h.extensions;
    rows = h.rows;
    relations = h.relations;
    pairings = h.pairings;
    editions = h.editions;
    kept = h.kept;
    keeps = record {
      tiles = h.keeps.tiles;
      media = h.keeps.media;
      pieces = h.keeps.pieces;
      blobs = h.keeps.blobs;
      tiles_told = h.keeps.tiles_told;
      media_told = h.keeps.media_told;
      pieces_told = h.keeps.pieces_told;
      are = h.keeps.are;
      named = h.keeps.named;
    };
    profile = h.profile;
  }

  pub put_contents : (m : FinMap text_cmp Contents) → Holds past_rowid contents_row rows m
      → HoldingBut spare version (with_tree tables gpkg_contents.tree rows) (record p { contents = m })
  put_contents m new = record {
    systems = h.systems;
    contents = new;
    kinds = h.kinds;
    sets = h.sets;
    matrices = h.matrices;
    extensions = h.extensions;
    rows = h.rows;
    relations = h.relations;
    pairings = h.pairings;
    editions = h.editions;
    kept = h.kept;
    keeps = record {
      tiles = h.keeps.tiles;
      media = h.keeps.media;
      pieces = h.keeps.pieces;
      blobs = h.keeps.blobs;
      tiles_told = h.keeps.tiles_told;
      media_told = h.keeps.media_told;
      pieces_told = h.keeps.pieces_told;
      are = h.keeps.are;
      named = h.keeps.named;
    };
    profile = h.profile;
  }

  pub put_kinds : (m : FinMap text_cmp Text) → Holds past_rowid kind_row rows m
      → HoldingBut spare version (with_tree tables mm_tables.tree rows) (record p { kinds = m })
  put_kinds m new = record {
    systems = h.systems;
    contents = h.contents;
    kinds = new;
    sets = h.sets;
    matrices = h.matrices;
    extensions = h.extensions;
    rows = h.rows;
    relations = h.relations;
    pairings = h.pairings;
    editions = h.editions;
    kept = h.kept;
    keeps = record {
      tiles = h.keeps.tiles;
      media = h.keeps.media;
      pieces = h.keeps.pieces;
      blobs = h.keeps.blobs;
      tiles_told = h.keeps.tiles_told;
      media_told = h.keeps.media_told;
      pieces_told = h.keeps.pieces_told;
      are = h.keeps.are;
      named = h.keeps.named;
    };
    profile = h.profile;
  }

  pub put_sets : (m : FinMap text_cmp MatrixSet) → Holds past_rowid set_row rows m
      → HoldingBut spare version (with_tree tables gpkg_tile_matrix_set.tree rows) (record p { sets = m })
  put_sets m new = record {
    systems = h.systems;
    contents = h.contents;
    kinds = h.kinds;
    sets = new;
    matrices = h.matrices;
    extensions = h.extensions;
    rows = h.rows;
    relations = h.relations;
    pairings = h.pairings;
    editions = h.editions;
    kept = h.kept;
    keeps = record {
      tiles = h.keeps.tiles;
      media = h.keeps.media;
      pieces = h.keeps.pieces;
      blobs = h.keeps.blobs;
      tiles_told = h.keeps.tiles_told;
      media_told = h.keeps.media_told;
      pieces_told = h.keeps.pieces_told;
      are = h.keeps.are;
      named = h.keeps.named;
    };
    profile = h.profile;
  }

  pub put_matrices : (m : FinMap level_cmp Grid) → Holds past_rowid grid_row rows m
      → HoldingBut spare version (with_tree tables gpkg_tile_matrix.tree rows) (record p { matrices = m })
  put_matrices m new = record {
    systems = h.systems;
    contents = h.contents;
    kinds = h.kinds;
    sets = h.sets;
    matrices = new;
    extensions = h.extensions;
    rows = h.rows;
    relations = h.relations;
    pairings = h.pairings;
    editions = h.editions;
    kept = h.kept;
    keeps = record {
      tiles = h.keeps.tiles;
      media = h.keeps.media;
      pieces = h.keeps.pieces;
      blobs = h.keeps.blobs;
      tiles_told = h.keeps.tiles_told;
      media_told = h.keeps.media_told;
      pieces_told = h.keeps.pieces_told;
      are = h.keeps.are;
      named = h.keeps.named;
    };
    profile = h.profile;
  }

  pub put_extensions : (m : FinMap extension_cmp ℕ) → Counts rows m
      → HoldingBut spare version (with_tree tables gpkg_extensions.tree rows) (record p { extensions = m })
  put_extensions m new = record {
    systems = h.systems;
    contents = h.contents;
    kinds = h.kinds;
    sets = h.sets;
    matrices = h.matrices;
    extensions = new;
    rows = h.rows;
    relations = h.relations;
    pairings = h.pairings;
    editions = h.editions;
    kept = h.kept;
    keeps = record {
      tiles = h.keeps.tiles;
      media = h.keeps.media;
      pieces = h.keeps.pieces;
      blobs = h.keeps.blobs;
      tiles_told = h.keeps.tiles_told;
      media_told = h.keeps.media_told;
      pieces_told = h.keeps.pieces_told;
      are = h.keeps.are;
      named = h.keeps.named;
    };
    profile = h.profile;
  }

  pub put_rows : (m : FinMap item_cmp AttributeRow) → Holds past_rowid attribute_row rows m
      → HoldingBut spare version (with_tree tables mm_rows.tree rows) (record p { rows = m })
  put_rows m new = record {
    systems = h.systems;
    contents = h.contents;
    kinds = h.kinds;
    sets = h.sets;
    matrices = h.matrices;
    extensions = h.extensions;
    rows = new;
    relations = h.relations;
    pairings = h.pairings;
    editions = h.editions;
    kept = h.kept;
    keeps = record {
      tiles = h.keeps.tiles;
      media = h.keeps.media;
      pieces = h.keeps.pieces;
      blobs = h.keeps.blobs;
      tiles_told = h.keeps.tiles_told;
      media_told = h.keeps.media_told;
      pieces_told = h.keeps.pieces_told;
      are = h.keeps.are;
      named = h.keeps.named;
    };
    profile = h.profile;
  }

  pub put_relations : (m : FinMap text_cmp Relation) → Holds past_id relation_row rows m
      → HoldingBut spare version (with_tree tables gpkgext_relations.tree rows) (record p { relations = m })
  put_relations m new = record {
    systems = h.systems;
    contents = h.contents;
    kinds = h.kinds;
    sets = h.sets;
    matrices = h.matrices;
    extensions = h.extensions;
    rows = h.rows;
    relations = new;
    pairings = h.pairings;
    editions = h.editions;
    kept = h.kept;
    keeps = record {
      tiles = h.keeps.tiles;
      media = h.keeps.media;
      pieces = h.keeps.pieces;
      blobs = h.keeps.blobs;
      tiles_told = h.keeps.tiles_told;
      media_told = h.keeps.media_told;
      pieces_told = h.keeps.pieces_told;
      are = h.keeps.are;
      named = h.keeps.named;
    };
    profile = h.profile;
  }

  pub put_pairings : (m : FinMap pairing_cmp ⊤) → Holds past_rowid pairing_row rows m
      → HoldingBut spare version (with_tree tables mm_map.tree rows) (record p { pairings = m })
  put_pairings m new = record {
    systems = h.systems;
    contents = h.contents;
    kinds = h.kinds;
    sets = h.sets;
    matrices = h.matrices;
    extensions = h.extensions;
    rows = h.rows;
    relations = h.relations;
    pairings = new;
    editions = h.editions;
    kept = h.kept;
    keeps = record {
      tiles = h.keeps.tiles;
      media = h.keeps.media;
      pieces = h.keeps.pieces;
      blobs = h.keeps.blobs;
      tiles_told = h.keeps.tiles_told;
      media_told = h.keeps.media_told;
      pieces_told = h.keeps.pieces_told;
      are = h.keeps.are;
      named = h.keeps.named;
    };
    profile = h.profile;
  }

  pub put_editions : (m : FinMap text_cmp Text) → Holds past_rowid edition_row rows m
      → HoldingBut spare version (with_tree tables mm_editions.tree rows) (record p { editions = m })
  put_editions m new = record {
    systems = h.systems;
    contents = h.contents;
    kinds = h.kinds;
    sets = h.sets;
    matrices = h.matrices;
    extensions = h.extensions;
    rows = h.rows;
    relations = h.relations;
    pairings = h.pairings;
    editions = new;
    kept = h.kept;
    keeps = record {
      tiles = h.keeps.tiles;
      media = h.keeps.media;
      pieces = h.keeps.pieces;
      blobs = h.keeps.blobs;
      tiles_told = h.keeps.tiles_told;
      media_told = h.keeps.media_told;
      pieces_told = h.keeps.pieces_told;
      are = h.keeps.are;
      named = h.keeps.named;
    };
    profile = h.profile;
  }
