-- For which number a matrix is refused, from what was looked up.
use Rattle.std.proofs.Common.{◌≡◌, inl, inr, ℕ, pos, Bool, true, false, not, ◌&&◌, ◌||◌, [], ◌∷◌, Option, Some, None}
use Rattle.std.proofs.Common.{refl, sym, ap, ◌∙◌}
use Rattle.std.specs.FinMap.{get, contains_key}
use Rattle.std.proofs.lemmas.Bool.{true_from_ne_false}
use Rattle.mm_definitions.specs.Bounds.{Profile}
use Rattle.mm_definitions.specs.Keys.{Text, same_text, level}
use Rattle.mm_definitions.specs.Parts.{Has, at_value}
use Rattle.mm_definitions.specs.Package.{Package, MatrixSet, kind_text, has_kind, is_pyramid}
use Rattle.mm_definitions.specs.Rules.{Meets}
use Rattle.mm_definitions.specs.Effects.{step_kind}
use Rattle.mm_definitions.specs.Conditions.{least, piece_reasons, clashes, is_product, grid}
use Rattle.mm_definitions.specs.Neighbours.{Zoomed, neighbours, IsNearestBelow, IsNearestAbove, is_halved}
use Rattle.mm_definitions.specs.declared.commands.Kind.{Kind}
use Rattle.mm_definitions.specs.declared.commands.Kind.TheVariants as kinds
use Rattle.mm_definitions.specs.declared.commands.Matrix.{Matrix}
use Rattle.mm_definitions.specs.declared.commands.Step.{Step}
use Rattle.mm_definitions.specs.declared.commands.Step.TheVariants as steps
use Rattle.mm_definitions.specs.declared.commands.Piece.TheVariants as pieces
use Rattle.mm_definitions.proofs.Parts.{none_of}
use Rattle.mm_laws.proofs.Clashes.{clash_by_nearest}
use Rattle.mm_laws.proofs.Reasons.{none_holds, and_false, is_suited}
use Rattle.mm_definitions.proofs.FirstReason.{first_of}
use Rattle.mm_meta.specs.Shown.{IsPlainKind}
use Rattle.mm_layout.proofs.Registered.{lacks_contents, has_contents}

module _ (p : Package) (table : Text) (zoom : ℕ) (m : Matrix) where
  abbrev why : Option ℕ
  why = least (piece_reasons p (pieces.Matrix table zoom m))

  abbrev of_matrix : Bool → Bool → Bool → Bool → Bool → Option ℕ
  of_matrix stands pyramid there misfit clash =
      least ((25, not stands) ∷ (26, stands && not pyramid) ∷ (30, pyramid && there) ∷ (31, pyramid && misfit)
      ∷ (32, pyramid && clash) ∷ [])

  abbrev pyramid : Bool
  pyramid = is_pyramid p.kinds table

  abbrev there : Bool
  there = contains_key p.matrices (level table (pos zoom))

  abbrev misfit : Bool
  misfit = at_value (λ (s : MatrixSet). not (is_product s.box (grid m))) (get p.sets table)

  abbrev clash : Bool
  clash = clashes p table (pos zoom) (grid m)

  -- ---- the kind

  abbrev pyramid_by : Option Text → Bool
  pyramid_by v = at_value (same_text (kind_text kinds.Two)) v || at_value (same_text (kind_text kinds.Other)) v

  is_stepped : (step : Step) → pyramid_by (Some (kind_text (step_kind step))) ≡ true
  is_stepped steps.Two = refl
  is_stepped steps.Other = refl

  is_two : (step : Step) → at_value (same_text (kind_text kinds.Two)) (Some (kind_text (step_kind step)))
      ≡ is_halved step
  is_two steps.Two = refl
  is_two steps.Other = refl

  is_plain : (kind : Kind) → IsPlainKind kind → pyramid_by (Some (kind_text kind)) ≡ false
  is_plain kind (inl e) = ap (λ k. pyramid_by (Some (kind_text k))) e
  is_plain kind (inr e) = ap (λ k. pyramid_by (Some (kind_text k))) e

  module _ (profile : Profile) (meets : Meets profile p) where
    pub matrix_25 : get p.kinds table ≡ None → Some 25 ≡ why
    matrix_25 none =
        sym (ap (λ b. of_matrix b pyramid there misfit clash) (lacks_contents profile p meets table none)
        ∙ first_of 25 ((26, false) ∷ (30, pyramid && there) ∷ (31, pyramid && misfit) ∷ (32, pyramid && clash) ∷ [])
        refl)

    module _ (kind : Kind) (has : get p.kinds table ≡ Some (kind_text kind)) where
      pub matrix_26 : IsPlainKind kind → Some 26 ≡ why
      matrix_26 plain = sym (ap (λ b. of_matrix b pyramid there misfit clash)
          (has_contents profile p meets table kind has)
          ∙ ap (λ b. of_matrix true b there misfit clash) (ap pyramid_by has ∙ is_plain kind plain))

      module _ (step : Step) (is : kind ≡ step_kind step) where
        tiled : is_pyramid p.kinds table ≡ true
        tiled = ap pyramid_by (has ∙ ap (λ k. Some (kind_text k)) is) ∙ is_stepped step

        halved : has_kind p.kinds table kinds.Two ≡ is_halved step
        halved = ap (at_value (same_text (kind_text kinds.Two))) (has ∙ ap (λ k. Some (kind_text k)) is) ∙ is_two step

        of_pyramid : (b d e : Bool) → of_matrix (contains_key p.contents table) pyramid b d e ≡ of_matrix true true b d
            e
        of_pyramid b d e = ap (λ x. of_matrix x pyramid b d e) (has_contents profile p meets table kind has)
            ∙ ap (λ x. of_matrix true x b d e) tiled

        pub matrix_30 : contains_key p.matrices (level table (pos zoom)) ≡ true → Some 30 ≡ why
        matrix_30 found = sym (of_pyramid there misfit clash ∙ ap (λ b. of_matrix true true b misfit clash) found
            ∙ first_of 30 ((31, misfit) ∷ (32, clash) ∷ []) refl)

        module _ (free : contains_key p.matrices (level table (pos zoom)) ≡ false) (s : MatrixSet)
            (set_is : Has p.sets table s) where
          misfit_is : misfit ≡ not (is_product s.box (grid m))
          misfit_is = ap (at_value (λ (s : MatrixSet). not (is_product s.box (grid m)))) set_is

          pub matrix_31 : is_product s.box (grid m) ≡ false → Some 31 ≡ why
          matrix_31 off =
              sym (of_pyramid there misfit clash ∙ ap (λ b. of_matrix true true b misfit clash) free
              ∙ ap (λ b. of_matrix true true false b clash) (misfit_is ∙ ap not off)
              ∙ first_of 31 ((32, clash) ∷ []) refl)

          module _ (covers : is_product s.box (grid m) ≡ true) (below above : Option Zoomed)
              (low : IsNearestBelow p.matrices table (pos zoom) below)
              (high : IsNearestAbove p.matrices table (pos zoom) above) where
            fitting : (e : Bool) → of_matrix (contains_key p.contents table) pyramid there misfit e ≡ of_matrix true
                true false false e
            fitting e = of_pyramid there misfit e ∙ ap (λ b. of_matrix true true b misfit e) free
                ∙ ap (λ b. of_matrix true true false b e) (misfit_is ∙ ap not covers)

            told : neighbours below (pos zoom) (grid m) above (has_kind p.kinds table kinds.Two) ≡ neighbours below
                (pos zoom) (grid m) above (is_halved step)
            told = ap (neighbours below (pos zoom) (grid m) above) halved

            pub matrix_32 : neighbours below (pos zoom) (grid m) above (is_halved step) ≡ false → Some 32 ≡ why
            matrix_32 off =
                let clashing : clash ≡ true = true_from_ne_false _ (λ none.
                let t = (clash_by_nearest p table (pos zoom) (grid m) below above meets.q8 meets.q9 free low high).1
                none in
                let e : true ≡ false = sym t ∙ told ∙ off in cc) in
                sym (fitting clash ∙ ap (of_matrix true true false false) clashing)

            pub matrix_free : neighbours below (pos zoom) (grid m) above (is_halved step) ≡ true → None ≡ why
            matrix_free on =
                let calm : clash ≡ false = (clash_by_nearest p table (pos zoom) (grid m) below above meets.q8 meets.q9
                free low high).0 (told ∙ on) in
                sym (fitting clash ∙ ap (of_matrix true true false false) calm)

  -- where it is not refused, no matrix stands at the zoom
  pub matrix_is_new : None ≡ least (piece_reasons p (pieces.Matrix table zoom m))
      → get p.matrices (level table (pos zoom)) ≡ None
  matrix_is_new none =
      let each = none_holds (piece_reasons p (pieces.Matrix table zoom m)) (sym none) in
      none_of (get p.matrices (level table (pos zoom)))
      (and_false pyramid there each.1.1.0 (is_suited (contains_key p.contents table) pyramid each.0 each.1.0))
