-- What the texts of the queries compile to.
use Rattle.std.proofs.Common.{[], ◌∷◌, codes, refl}
use Rattle.sql_forms.specs.Collation.TheVariants.{Binary}
use Rattle.sql_forms.specs.Keys.{ascending}
use Rattle.sql_forms.specs.Term.{col}
use Rattle.sql_forms.specs.Query.{inner, left, end}
use Rattle.sqlite.specs.Listing.{understood}
use Rattle.sql_forms.specs.Compute.{everything}
use Rattle.mm_walk.specs.RowTests.{IsQuery}
use Rattle.mm_store.specs.Tables.{schema}
use Rattle.mm_rules.specs.Texts as text
use Rattle.mm_walk.proofs.Quiet.{IsQuiet}
use Rattle.mm_walk.proofs.Terms.{equals, below}

pub tiles_inside : IsQuery schema text.tiles_inside (inner 15 (left 6 (equals 2 1 1 1 ∷ equals 2 2 1 2 ∷ []) end)) []
    (col 1 3 ∷ col 1 4 ∷ col 2 3 ∷ col 2 4 ∷ [])
    ((col 1 1, ascending Binary) ∷ (col 1 2, ascending Binary) ∷ (col 1 3, ascending Binary)
    ∷ (col 1 4, ascending Binary) ∷ []) (codes "tile_column" ∷ codes "tile_row" ∷ codes "matrix_width" ∷ codes
    "matrix_height" ∷ [])
unfolding understood everything
tiles_inside = record { compiled = refl; plain = (refl, refl); unlisted = refl }

pub quiet_tiles_inside : IsQuiet text.tiles_inside
unfolding everything
quiet_tiles_inside = λ schema base. refl

pub matrices_fit : IsQuery schema text.matrices_fit
    (inner 6 (left 13 (equals 2 1 1 1 ∷ []) (left 4 (equals 3 1 1 1 ∷ []) end))) []
    (col 2 2 ∷ col 3 3 ∷ col 3 4 ∷ col 3 5 ∷ col 3 6 ∷ col 1 3 ∷ col 1 4 ∷ col 1 5 ∷ col 1 6 ∷ col 1 7 ∷ col 1 8 ∷ [])
    ((col 1 1, ascending Binary) ∷ (col 1 2, ascending Binary) ∷ [])
    (codes "kind" ∷ codes "min_x" ∷ codes "min_y" ∷ codes "max_x" ∷ codes "max_y" ∷ codes "matrix_width" ∷ codes
    "matrix_height" ∷ codes "tile_width" ∷ codes "tile_height" ∷ codes "pixel_x_size" ∷ codes "pixel_y_size" ∷ [])
unfolding understood everything
matrices_fit = record { compiled = refl; plain = (refl, refl); unlisted = refl }

pub quiet_matrices_fit : IsQuiet text.matrices_fit
unfolding everything
quiet_matrices_fit = λ schema base. refl

pub higher_is_finer : IsQuery schema text.higher_is_finer (inner 6 (inner 6 end)) (equals 2 1 1 1 ∷ below 1 2 2 2 ∷ [])
    (col 1 7 ∷ col 1 8 ∷ col 2 7 ∷ col 2 8 ∷ [])
    ((col 1 1, ascending Binary) ∷ (col 1 2, ascending Binary) ∷ []) (codes "pixel_x_size" ∷ codes "pixel_y_size" ∷ codes "pixel_x_size" ∷ codes "pixel_y_size" ∷ [])
unfolding understood everything
higher_is_finer = record { compiled = refl; plain = (refl, refl); unlisted = refl }

pub quiet_higher_is_finer : IsQuiet text.higher_is_finer
unfolding everything
quiet_higher_is_finer = λ schema base. refl

pub next_is_halved : IsQuery schema text.next_is_halved (inner 6 (inner 6 (left 13 (equals 3 1 1 1 ∷ []) end)))
    (equals 2 1 1 1 ∷ below 1 2 2 2 ∷ []) (col 3 2 ∷ col 1 2 ∷ col 2 2 ∷ col 1 7 ∷ col 1 8 ∷ col 2 7 ∷ col 2 8 ∷ [])
    ((col 1 1, ascending Binary) ∷ (col 1 2, ascending Binary) ∷ [])
    (codes "kind" ∷ codes "zoom_level" ∷ codes "zoom_level" ∷ codes "pixel_x_size" ∷ codes "pixel_y_size" ∷ codes
    "pixel_x_size" ∷ codes "pixel_y_size" ∷ [])
unfolding understood everything
next_is_halved = record { compiled = refl; plain = (refl, refl); unlisted = refl }

pub quiet_next_is_halved : IsQuiet text.next_is_halved
unfolding everything
quiet_next_is_halved = λ schema base. refl
