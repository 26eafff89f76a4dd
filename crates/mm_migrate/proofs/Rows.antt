-- What each of the statements makes of a row.
use Rattle.std.proofs.Common.{◌≡◌, [], refl}
use Rattle.sqlite.specs.Order.{Row}
use Rattle.sql_forms.proofs.Casts.{cast_all_is}
use Rattle.sql_forms.proofs.Keys.{columns_are}
use Rattle.sql_forms.proofs.Updates.{updated}
use Rattle.mm_store.specs.Tables.{gpkg_contents, gpkg_tile_matrix_set, gpkg_tile_matrix}
use Rattle.mm_definitions.specs.Bounds.{millimetres}
use Rattle.mm_definitions.specs.Keys.{Text, Level}
use Rattle.mm_definitions.specs.Package.{Contents, MatrixSet, Grid}
use Rattle.mm_definitions.specs.Rules.{ContentsWithin, SetWithin, MatrixWithin}
use Rattle.mm_definitions.specs.Scale.{finer_contents, finer_set, finer_grid}
use Rattle.mm_store.specs.Rows.{past_rowid, contents_row, set_row, grid_row}
use Rattle.mm_store.proofs.Changes.{contents_typed}
use Rattle.mm_migrate.specs.Texts.{contents_sets, set_sets, matrix_sets}
use Rattle.mm_migrate.proofs.Products as products

pub contents_becomes : (r : Row) (table : Text) (c : Contents) → ContentsWithin millimetres table c
    → past_rowid r ≡ contents_row table c
    → past_rowid (updated gpkg_contents contents_sets [] r) ≡ contents_row table (finer_contents c)
contents_becomes r table c h is =
    rw (
      columns_are r (contents_row table c) 0 is,
      columns_are r (contents_row table c) 1 is,
      columns_are r (contents_row table c) 2 is,
      columns_are r (contents_row table c) 3 is,
      columns_are r (contents_row table c) 4 is,
      columns_are r (contents_row table c) 5 is,
      columns_are r (contents_row table c) 6 is,
      columns_are r (contents_row table c) 7 is,
      columns_are r (contents_row table c) 8 is,
      columns_are r (contents_row table c) 9 is,
      products.bound c.min_x h.min_x,
      products.bound c.min_y h.min_y,
      products.bound c.max_x h.max_x,
      products.bound c.max_y h.max_y,
    )
    (cast_all_is gpkg_contents.columns (contents_row table (finer_contents c))
    (contents_typed table (finer_contents c)))

pub set_becomes : (r : Row) (table : Text) (s : MatrixSet) → SetWithin millimetres table s
    → past_rowid r ≡ set_row table s
    → past_rowid (updated gpkg_tile_matrix_set set_sets [] r) ≡ set_row table (finer_set s)
set_becomes r table s h is =
    rw (
      columns_are r (set_row table s) 0 is,
      columns_are r (set_row table s) 1 is,
      columns_are r (set_row table s) 2 is,
      columns_are r (set_row table s) 3 is,
      columns_are r (set_row table s) 4 is,
      columns_are r (set_row table s) 5 is,
      products.coordinate s.box.min_x h.box.min_x,
      products.coordinate s.box.min_y h.box.min_y,
      products.coordinate s.box.max_x h.box.max_x,
      products.coordinate s.box.max_y h.box.max_y,
    )
    (cast_all_is gpkg_tile_matrix_set.columns (set_row table (finer_set s)) refl)

pub matrix_becomes : (r : Row) (k : Level) (g : Grid) → MatrixWithin millimetres k g → past_rowid r ≡ grid_row k g
    → past_rowid (updated gpkg_tile_matrix matrix_sets [] r) ≡ grid_row k (finer_grid g)
matrix_becomes r k g h is =
    rw (
      columns_are r (grid_row k g) 0 is,
      columns_are r (grid_row k g) 1 is,
      columns_are r (grid_row k g) 2 is,
      columns_are r (grid_row k g) 3 is,
      columns_are r (grid_row k g) 4 is,
      columns_are r (grid_row k g) 5 is,
      columns_are r (grid_row k g) 6 is,
      columns_are r (grid_row k g) 7 is,
      products.pixel_size g.pixel_x_size h.pixel_x_size,
      products.pixel_size g.pixel_y_size h.pixel_y_size,
    )
    (cast_all_is gpkg_tile_matrix.columns (grid_row k (finer_grid g)) refl)
