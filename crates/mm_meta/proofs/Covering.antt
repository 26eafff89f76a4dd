-- Whether a matrix covers the extent of its pyramid, as a test.
use Rattle.std.proofs.Common.{◌≡◌, ◌↔◌, Bool, true, false, List, [], ◌∷◌, subst, Option, Some, None, option_map, refl}
use Rattle.std.proofs.Common.{sym, ap, ◌∙◌}
use Rattle.std.specs.Prelude.{◌-ℤ◌, ◌*ℤ◌, IsTrue}
use Rattle.std.specs.FinMap.{FinMap, get}
use Rattle.std.proofs.lemmas.Bool.{and_from, false_from_ne_true}
use Rattle.sqlite.specs.declared.types.Value.TheVariants.{Text as Words}
use Rattle.sqlite.specs.Order.{Row, column}
use Rattle.sqlite.specs.Term.{Term, col}
use Rattle.sql_forms.specs.Tables.{FindsRow}
use Rattle.sql_forms.specs.Maps.{Holds}
use Rattle.sql_forms.proofs.Keys.{columns_are}
use Rattle.sql_forms.proofs.Selects.{shows}
use Rattle.mm_definitions.specs.Keys.{Text, text_cmp}
use Rattle.mm_definitions.specs.Conditions.{is_product}
use Rattle.mm_definitions.specs.Package.{Box, Grid, MatrixSet}
use Rattle.mm_definitions.specs.Rules.{Fits}
use Rattle.mm_definitions.proofs.Parts.{same_some}
use Rattle.mm_laws.proofs.PieceReasons.{same_as}
use Rattle.mm_laws.proofs.Matrices.{product_tells}
use Rattle.mm_store.specs.Rows.{past_rowid, set_row}
use Rattle.mm_store.proofs.Keys as parts
use Rattle.mm_store.proofs.Keys.{by_text, same_int}
use Rattle.mm_store.proofs.Parts.{finds_none, finds_some}
use Rattle.mm_meta.specs.Shown.{GivesExtent}

fits_product : (b : Box) (g : Grid) → Fits b g → is_product b g ≡ true
fits_product b g fits =
    and_from _ _ (same_as (b.max_x -ℤ b.min_x) ((g.matrix_width *ℤ g.tile_width) *ℤ g.pixel_x_size) fits.across)
    (same_as (b.max_y -ℤ b.min_y) ((g.matrix_height *ℤ g.tile_height) *ℤ g.pixel_y_size) fits.down)

-- what is told as fitting is the test
pub fits_is : (b : Box) (g : Grid) (told : Bool) → IsTrue told ↔ Fits b g → told ≡ is_product b g
fits_is b g true so = sym (fits_product b g (so.0 refl))
fits_is b g false so = sym (false_from_ne_true _ (λ is. let e : false ≡ true = so.1 (product_tells b g is) in cc))

-- the matrix set whose extent was read
pub set_of : (o : Option MatrixSet) (b : Box) → option_map (λ (s : MatrixSet). s.box) o ≡ Some b → (s : MatrixSet)
    × (o ≡ Some s) × (s.box ≡ b)
set_of None b is = absurd (let e : None ≡ Some b = is in cc)
set_of (Some s) b is = (s, refl, same_some is)

abbrev pub extent_columns : List Term
extent_columns = col 1 3 ∷ col 1 4 ∷ col 1 5 ∷ col 1 6 ∷ []

pub extent_found : (rows : List Row) (m : FinMap text_cmp MatrixSet) (h : Holds past_rowid set_row rows m)
    (table : Text) (x : Option Box) (first : Option Row) → GivesExtent x first
    → FindsRow (by_text table) (shows extent_columns (Words table ∷ [])) rows first
    → option_map (λ (s : MatrixSet). s.box) (get m table) ≡ x
extent_found rows m h table None first gives found =
    ap (option_map (λ (s : MatrixSet). s.box))
    (finds_none parts.sets rows m h table (shows extent_columns (Words table ∷ []))
    (subst (FindsRow (by_text table) (shows extent_columns (Words table ∷ [])) rows) gives found))
extent_found rows m h table (Some e) first gives found =
    let at = finds_some parts.sets rows m h table (shows extent_columns (Words table ∷ [])) gives.0
    (subst (FindsRow (by_text table) (shows extent_columns (Words table ∷ [])) rows) gives.1 found) in
    let a : at.0.box.min_x ≡ e.min_x =
    same_int (sym (columns_are at.2 (set_row table at.0) 2 at.3) ∙ sym (ap (λ (r : Row). column r 0) at.4)
    ∙ gives.2.min_x) in
    let b : at.0.box.min_y ≡ e.min_y =
    same_int (sym (columns_are at.2 (set_row table at.0) 3 at.3) ∙ sym (ap (λ (r : Row). column r 1) at.4)
    ∙ gives.2.min_y) in
    let c : at.0.box.max_x ≡ e.max_x =
    same_int (sym (columns_are at.2 (set_row table at.0) 4 at.3) ∙ sym (ap (λ (r : Row). column r 2) at.4)
    ∙ gives.2.max_x) in
    let d : at.0.box.max_y ≡ e.max_y =
    same_int (sym (columns_are at.2 (set_row table at.0) 5 at.3) ∙ sym (ap (λ (r : Row). column r 3) at.4)
    ∙ gives.2.max_y) in
    ap (option_map (λ (s : MatrixSet). s.box)) at.1
    ∙ (λ i. Some (record { min_x = a i; min_y = b i; max_x = c i; max_y = d i }))
