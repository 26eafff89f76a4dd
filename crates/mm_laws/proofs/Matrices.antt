-- A matrix that is put keeps the rules.
use Rattle.std.proofs.Common.{◌≡◌, ℕ, pos, ◌*ℤ◌, ◌-ℤ◌, true, false, not, Option, Some, None, refl, sym, ap, subst, ◌∙◌}
use Rattle.std.specs.FinMap.{FinMap, get, contains_key, insert}
use Rattle.std.proofs.lemmas.Bool.{not-false, and_parts}
use Rattle.mm_definitions.specs.Keys.{Text, Level, level, level_cmp}
use Rattle.mm_definitions.specs.Parts.{Has, at_value}
use Rattle.mm_definitions.specs.Package.{Grid, Box, MatrixSet, IsPyramid, is_pyramid, has_kind}
use Rattle.mm_definitions.specs.Rules.{Fits, FitsIn, IsInside, MatrixWithin}
use Rattle.mm_definitions.specs.Conditions.{piece_reasons, grid, is_product, clashes}
use Rattle.mm_definitions.specs.declared.commands.Kind.TheVariants.{Two}
use Rattle.mm_definitions.specs.declared.commands.Matrix.{Matrix}
use Rattle.mm_definitions.specs.declared.commands.Piece.TheVariants as pieces
use Rattle.mm_definitions.proofs.Parts.{each_put, kept_by_new}
use Rattle.mm_definitions.proofs.KeyLaws.{levels, numbers}
use Rattle.mm_laws.proofs.Kept.{PieceKeeps}
use Rattle.mm_laws.proofs.Reasons.{none_holds, and_false}
use Rattle.mm_laws.proofs.KindFacts.{are_same, is_pyramid_tells, pyramid_set}
use Rattle.mm_laws.proofs.Touch.{touch_keeps}
use Rattle.mm_laws.proofs.PixelSizes.{SuitsAll, suits_unless_clashes, still_finer, still_halved}

pub product_tells : (b : Box) (g : Grid) → is_product b g ≡ true → Fits b g
product_tells b g e =
    let p = and_parts _ _ e in
    record {
      across = are_same numbers (b.max_x -ℤ b.min_x) ((g.matrix_width *ℤ g.tile_width) *ℤ g.pixel_x_size) p.0;
      down = are_same numbers (b.max_y -ℤ b.min_y) ((g.matrix_height *ℤ g.tile_height) *ℤ g.pixel_y_size) p.1;
    }

fits_in : (s : Option MatrixSet) (g : Grid) → (r : MatrixSet) → s ≡ Some r
    → at_value (λ s. not (is_product s.box g)) s ≡ false → FitsIn s g
fits_in s g r e h = subst (λ v. FitsIn v g) (sym e)
    (product_tells r.box g (not-false _ (ap (at_value (λ s. not (is_product s.box g))) (sym e) ∙ h)))

-- a tile that lies in a matrix still does, where matrices are added
pub still_inside : (old new : FinMap level_cmp Grid) → ((k : Level) (g : Grid) → Has old k g → Has new k g)
    → (k : Level) (column row : _)
    → IsInside (get old k) column row → IsInside (get new k) column row
still_inside old new more k column row h = found (get old k) refl h where
  found : (v : Option Grid) → get old k ≡ v → IsInside v column row → IsInside (get new k) column row
  found None e i = absurd i
  found (Some g) e i = subst (λ v. IsInside v column row) (sym (more k g e)) i

pub matrix : (table : Text) (zoom : ℕ) (m : Matrix) → PieceKeeps (pieces.Matrix table zoom m)
matrix table zoom m profile p moment stamp h within low is none =
    let r = none_holds (piece_reasons p (pieces.Matrix table zoom m)) none in
    let pyramid : is_pyramid p.kinds table ≡ true = not-false (is_pyramid p.kinds table)
    (and_false (contains_key p.contents table) (not (is_pyramid p.kinds table)) r.1.0
    (not-false (contains_key p.contents table) r.0)) in
    let is_one : IsPyramid p.kinds table = is_pyramid_tells p.kinds table pyramid in
    let new : contains_key p.matrices (level table (pos zoom)) ≡ false = and_false (is_pyramid p.kinds table)
    (contains_key p.matrices (level table (pos zoom))) r.1.1.0 pyramid in
    let set = pyramid_set p.contents p.kinds p.sets h.q5 table is_one in
    let fits : FitsIn (get p.sets table) (grid m) = fits_in (get p.sets table) (grid m) set.0 set.1
    (and_false (is_pyramid p.kinds table) (at_value (λ s. not (is_product s.box (grid m))) (get p.sets table))
    r.1.1.1.0 pyramid) in
    let all : SuitsAll p.matrices table (pos zoom) (grid m) (has_kind p.kinds table Two) =
    suits_unless_clashes p table (pos zoom) (grid m)
    (and_false (is_pyramid p.kinds table) (clashes p table (pos zoom) (grid m)) r.1.1.1.1.0 pyramid) in
    let still = kept_by_new levels p.matrices (level table (pos zoom)) (grid m) new in
    touch_keeps profile (record p { matrices = insert p.matrices (level table (pos zoom)) (grid m) }) table stamp moment
    low is (record {
      q1 = h.q1;
      q2 = h.q2;
      q3 = h.q3;
      q4 = h.q4;
      q5 = h.q5;
      q6 = h.q6;
      q7 = each_put levels p.matrices (level table (pos zoom)) (grid m)
          (λ k g. IsPyramid p.kinds k.table × FitsIn (get p.sets k.table) g) h.q7 (is_one, fits);
      q8 = still_finer p.matrices table (pos zoom) (grid m) (has_kind p.kinds table Two) all h.q8;
      q9 = still_halved p.kinds p.matrices table (pos zoom) (grid m) all h.q9;
      q10 = λ k bytes e. still_inside p.matrices (insert p.matrices (level table (pos zoom)) (grid m)) still
          (level k.table k.zoom) k.column k.row (h.q10 k bytes e);
      q11 = h.q11;
      q12 = h.q12;
      q13 = h.q13;
      q14 = h.q14;
      q15 = h.q15;
      q16 = record {
        systems = h.q16.systems;
        contents = h.q16.contents;
        kinds = h.q16.kinds;
        sets = h.q16.sets;
        matrices = each_put levels p.matrices (level table (pos zoom)) (grid m) (MatrixWithin profile) h.q16.matrices
            (record {
              table = within.0;
              zoom = within.1;
              matrix_width = within.2.mw;
              matrix_height = within.2.mh;
              tile_width = within.2.tw;
              tile_height = within.2.th;
              pixel_x_size = within.2.px;
              pixel_y_size = within.2.py;
            });
        extensions = h.q16.extensions;
        tiles = h.q16.tiles;
        rows = h.q16.rows;
        media = h.q16.media;
        relations = h.q16.relations;
        pairings = h.q16.pairings;
        editions = h.q16.editions;
        pieces = h.q16.pieces;
      };
    })
