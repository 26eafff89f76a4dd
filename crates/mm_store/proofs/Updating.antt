-- The UPDATE statements.
use Rattle.std.proofs.Common.{[], ◌∷◌, codes, refl}
use Rattle.sqlite.specs.declared.types.Value.TheVariants.{Text}
use Rattle.sqlite.specs.Term.{lit, col}
use Rattle.sqlite.specs.Listing.{understood}
use Rattle.sql_forms.specs.Compute.{everything}
use Rattle.sql_forms.specs.CompareOp.TheVariants.{Ne}
use Rattle.sql_forms.specs.Forms.{equals, compares}
use Rattle.sql_forms.proofs.Updates.{IsUpdate}
use Rattle.mm_store.specs.Tables.{schema, gpkg_contents, mm_tiles, mm_rows, mm_media, mm_editions}
use Rattle.mm_store.specs.Compiled as text

pub touch : IsUpdate schema text.touch_contents 1 gpkg_contents (equals 1 0 ∷ compares Ne 5 1 ∷ [])
    (col 1 1 ∷ col 1 2 ∷ col 1 3 ∷ col 1 4 ∷ col 0 1 ∷ col 1 6 ∷ col 1 7 ∷ col 1 8 ∷ col 1 9 ∷ col 1 10 ∷ [])
unfolding understood everything
touch = record { compiled = refl; plain = (refl, refl); placed = refl; idle = λ moves. refl; none = refl }

pub update_tile : IsUpdate schema text.update_tile 8 mm_tiles (equals 1 0 ∷ equals 2 1 ∷ equals 3 2 ∷ equals 4 3 ∷ [])
    (col 1 1 ∷ col 1 2 ∷ col 1 3 ∷ col 1 4 ∷ col 0 4 ∷ [])
unfolding understood everything
update_tile = record { compiled = refl; plain = (refl, refl); placed = refl; idle = λ moves. refl; none = refl }

pub update_row : IsUpdate schema text.update_row 9 mm_rows (equals 1 0 ∷ equals 2 1 ∷ [])
    (col 1 1 ∷ col 1 2 ∷ col 0 2 ∷ col 0 3 ∷ col 0 4 ∷ [])
unfolding understood everything
update_row = record { compiled = refl; plain = (refl, refl); placed = refl; idle = λ moves. refl; none = refl }

pub update_medium : IsUpdate schema text.update_medium 10 mm_media (equals 1 0 ∷ equals 2 1 ∷ [])
    (col 1 1 ∷ col 1 2 ∷ col 0 2 ∷ col 0 3 ∷ [])
unfolding understood everything
update_medium = record { compiled = refl; plain = (refl, refl); placed = refl; idle = λ moves. refl; none = refl }

pub close_edition : IsUpdate schema text.close_edition 12 mm_editions (equals 1 0 ∷ []) (col 1 1 ∷ lit (Text (codes "published")) ∷ [])
unfolding understood everything
close_edition = record { compiled = refl; plain = (refl, refl); placed = refl; idle = λ moves. refl; none = refl }
