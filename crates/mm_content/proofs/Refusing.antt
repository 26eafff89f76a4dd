-- For which number a command on content is refused, from what was looked up.
use Rattle.std.proofs.Common.{◌≡◌, ℕ, ℤ, pos, Bool, true, false, not, ◌&&◌, ◌||◌, List, [], ◌∷◌, Option, Some, None}
use Rattle.std.proofs.Common.{option_map, is_some, refl, sym, ap, ◌∙◌}
use Rattle.std.specs.Prelude.{nat_le, int_le}
use Rattle.std.specs.List.{list_all}
use Rattle.std.specs.FinMap.{get, contains_key}
use Rattle.mm_definitions.specs.Bounds.{Profile}
use Rattle.mm_definitions.specs.Keys.{Text, same_text, level, item}
use Rattle.mm_definitions.specs.Parts.{at_value}
use Rattle.mm_definitions.specs.Places.{tile_at}
use Rattle.mm_definitions.specs.Package.{Package, Grid, kind_text, has_kind, is_pyramid}
use Rattle.mm_definitions.specs.Rules.{Meets}
use Rattle.mm_definitions.specs.Effects.{plain_kind}
use Rattle.mm_definitions.specs.Conditions.{Reasons, least, piece_reasons, outside, is_mapped}
use Rattle.mm_definitions.specs.declared.commands.Kind.{Kind}
use Rattle.mm_definitions.specs.declared.commands.Kind.TheVariants as kinds
use Rattle.mm_definitions.specs.declared.commands.PlainKind.{PlainKind}
use Rattle.mm_definitions.specs.declared.commands.Piece.TheVariants as pieces
use Rattle.mm_definitions.specs.declared.places.TilePlace.{TilePlace}
use Rattle.mm_definitions.proofs.FirstReason.{first_of}
use Rattle.mm_layout.proofs.Registered.{lacks_contents, has_contents}

-- ---- the kind of the table

abbrev pub of_kind : Bool → Bool → Reasons → Option ℕ
of_kind stands suited rest = least ((25, not stands) ∷ (26, stands && not suited) ∷ rest)

-- a table that is refused for its kind is refused so whatever else is asked
pub kind_first : (stands suited : Bool) (rest : Reasons) (n : ℕ) → list_all (λ r. nat_le 25 r.0) rest ≡ true
    → list_all (λ r. nat_le 26 r.0) rest ≡ true → Some n ≡ of_kind stands suited []
    → Some n ≡ of_kind stands suited rest
kind_first false suited rest n h k e = e ∙ sym (first_of 25 ((26, false) ∷ rest) h)
kind_first true false rest n h k e = e ∙ sym (first_of 26 rest k)
kind_first true true rest n h k e = absurd (let f : ◌≡◌ {A = Option ℕ} (Some n) None = e in cc)

pub kind_free : (stands suited : Bool) → None ≡ of_kind stands suited [] → (stands ≡ true) × (suited ≡ true)
kind_free false suited e = absurd (let f : ◌≡◌ {A = Option ℕ} None (Some 25) = e in cc)
kind_free true false e = absurd (let f : ◌≡◌ {A = Option ℕ} None (Some 26) = e in cc)
kind_free true true e = (refl, refl)

module _ (p : Package) (table : Text) where
  module _ (profile : Profile) (meets : Meets profile p) where
    pub kind_25 : (suited : Bool) → get p.kinds table ≡ None
        → Some 25 ≡ of_kind (contains_key p.contents table) suited []
    kind_25 suited none = sym (ap (λ b. of_kind b suited []) (lacks_contents profile p meets table none))

    module _ (kind : Kind) (has : get p.kinds table ≡ Some (kind_text kind)) where
      kind_told : (suited : Bool) → of_kind (contains_key p.contents table) suited [] ≡ of_kind true suited []
      kind_told suited = ap (λ b. of_kind b suited []) (has_contents profile p meets table kind has)

      abbrev pub pyramid_by : Option Text → Bool
      pyramid_by v = at_value (same_text (kind_text kinds.Two)) v || at_value (same_text (kind_text kinds.Other)) v

      pub plain_26 : (asked : PlainKind) → same_text (kind_text (plain_kind asked)) (kind_text kind) ≡ false
          → Some 26 ≡ of_kind (contains_key p.contents table) (has_kind p.kinds table (plain_kind asked)) []
      plain_26 asked off = sym (kind_told (has_kind p.kinds table (plain_kind asked))
          ∙ ap (λ b. of_kind true b []) (ap (at_value (same_text (kind_text (plain_kind asked)))) has ∙ off))

      pub plain_free : (asked : PlainKind) → same_text (kind_text (plain_kind asked)) (kind_text kind) ≡ true
          → None ≡ of_kind (contains_key p.contents table) (has_kind p.kinds table (plain_kind asked)) []
      plain_free asked on = sym (kind_told (has_kind p.kinds table (plain_kind asked))
          ∙ ap (λ b. of_kind true b []) (ap (at_value (same_text (kind_text (plain_kind asked)))) has ∙ on))

      pub pyramid_26 : (same_text (kind_text kinds.Two) (kind_text kind) || same_text (kind_text kinds.Other)
          (kind_text kind)) ≡ false
          → Some 26 ≡ of_kind (contains_key p.contents table) (is_pyramid p.kinds table) []
      pyramid_26 off = sym (kind_told (is_pyramid p.kinds table)
          ∙ ap (λ b. of_kind true b []) (ap pyramid_by has ∙ off))

      pub pyramid_free : (same_text (kind_text kinds.Two) (kind_text kind) || same_text (kind_text kinds.Other)
          (kind_text kind)) ≡ true
          → None ≡ of_kind (contains_key p.contents table) (is_pyramid p.kinds table) []
      pyramid_free on = sym (kind_told (is_pyramid p.kinds table)
          ∙ ap (λ b. of_kind true b []) (ap pyramid_by has ∙ on))

-- ---- tiles

abbrev pub sides : Grid → ℤ × ℤ
sides g = (g.matrix_width, g.matrix_height)

module _ (p : Package) (table : Text) (place : TilePlace) where
  abbrev tiled : Bool
  tiled = is_pyramid p.kinds table

  abbrev grid_at : Option Grid
  grid_at = get p.matrices (level table (pos place.zoom))

  module _ (bytes : List ℕ) where
    abbrev of_tile : Bool → Bool → Bool → Bool → Option ℕ
    of_tile stands suited there out = of_kind stands suited ((33, suited && not there) ∷ (34, out) ∷ [])

    abbrev why_tile : Option ℕ
    why_tile = least (piece_reasons p (pieces.Tile table place bytes))

    abbrev out : Bool
    out = at_value (outside (pos place.column) (pos place.row)) grid_at

    pub tile_by_kind : (n : ℕ) → Some n ≡ of_kind (contains_key p.contents table) (is_pyramid p.kinds table) []
        → Some n ≡ why_tile
    tile_by_kind n e = kind_first (contains_key p.contents table) tiled
        ((33, tiled && not (is_some grid_at)) ∷ (34, out) ∷ []) n refl refl e

    module _ (free : None ≡ of_kind (contains_key p.contents table) (is_pyramid p.kinds table) []) where
      suited_tile : (there b : Bool) → of_tile (contains_key p.contents table) tiled there b ≡ of_tile true true there b
      suited_tile there b = let k = kind_free (contains_key p.contents table) tiled free in ap
          (λ x. of_tile x tiled there b) k.0 ∙ ap (λ x. of_tile true x there b) k.1

      pub tile_33 : option_map sides (get p.matrices (level table (pos place.zoom))) ≡ None → Some 33 ≡ why_tile
      tile_33 none = sym (suited_tile (is_some grid_at) out
          ∙ ap (λ b. of_tile true true b out) (ap (λ (o : Option Grid). is_some o) (unmapped grid_at none))
          ∙ first_of 33 ((34, out) ∷ []) refl)
        where
          unmapped : (o : Option Grid) → option_map sides o ≡ None → o ≡ None
          unmapped None e = refl
          unmapped (Some g) e = absurd (let f : ◌≡◌ {A = Option (ℤ × ℤ)} (Some (sides g)) None = e in cc)

      module _ (width height : ℤ) (has : option_map sides (get p.matrices (level table (pos place.zoom)))
          ≡ Some (width, height)) where
        grid_there : (o : Option Grid) → option_map sides o ≡ Some (width, height)
            → (g : Grid) × (o ≡ Some g) × (g.matrix_width ≡ width) × (g.matrix_height ≡ height)
        grid_there None e = absurd cc
        grid_there (Some g) e = let same : sides g ≡ (width, height) =
            cc in (g, refl, ap (λ (q : ℤ × ℤ). q.0) same, ap (λ (q : ℤ × ℤ). q.1) same)

        told : (b : Bool) → (int_le width (pos place.column) || int_le height (pos place.row)) ≡ b
            → why_tile ≡ of_tile true true true b
        told b is =
            let g = grid_there grid_at has in
            suited_tile (is_some grid_at) out
            ∙ ap (λ x. of_tile true true x out) (ap (λ (o : Option Grid). is_some o) g.1)
            ∙ ap (of_tile true true true) (ap (at_value (outside (pos place.column) (pos place.row))) g.1
            ∙ (λ i. int_le (g.2 i) (pos place.column) || int_le (g.3 i) (pos place.row)) ∙ is)

        pub tile_34 : (int_le width (pos place.column) || int_le height (pos place.row)) ≡ true → Some 34 ≡ why_tile
        tile_34 is = sym (told true is)

        pub tile_fits : (int_le width (pos place.column) || int_le height (pos place.row)) ≡ false → None ≡ why_tile
        tile_fits is = sym (told false is)

  abbrev of_tile_drop : Bool → Bool → Bool → Option ℕ
  of_tile_drop stands suited there = of_kind stands suited ((35, suited && not there) ∷ [])

  abbrev why_tile_drop : Option ℕ
  why_tile_drop = least (piece_reasons p (pieces.TileDrop table place))

  abbrev tile_there : Bool
  tile_there = contains_key p.tiles (tile_at table place)

  pub tile_drop_by_kind : (n : ℕ) → Some n ≡ of_kind (contains_key p.contents table) (is_pyramid p.kinds table) []
      → Some n ≡ why_tile_drop
  tile_drop_by_kind n e = kind_first (contains_key p.contents table) tiled ((35, tiled && not tile_there) ∷ []) n refl
      refl e

  module _ (free : None ≡ of_kind (contains_key p.contents table) (is_pyramid p.kinds table) []) where
    suited_drop : (there : Bool) → of_tile_drop (contains_key p.contents table) tiled there ≡ of_tile_drop true true
        there
    suited_drop there = let k = kind_free (contains_key p.contents table) tiled free in ap
        (λ x. of_tile_drop x tiled there) k.0 ∙ ap (λ x. of_tile_drop true x there) k.1

    pub tile_drop_35 : contains_key p.tiles (tile_at table place) ≡ false
        → Some 35 ≡ why_tile_drop
    tile_drop_35 gone = sym (suited_drop tile_there ∙ ap (of_tile_drop true true) gone)

    pub tile_drop_free : contains_key p.tiles (tile_at table place) ≡ true
        → None ≡ why_tile_drop
    tile_drop_free there = sym (suited_drop tile_there ∙ ap (of_tile_drop true true) there)

-- ---- rows

module _ (p : Package) (table : Text) (id : ℤ) where
  abbrev of_row_drop : Bool → Bool → Bool → Bool → Option ℕ
  of_row_drop stands suited there mapped = of_kind stands suited ((40, suited && not there) ∷ (42, mapped) ∷ [])

  abbrev why_row_drop : Option ℕ
  why_row_drop = least (piece_reasons p (pieces.RowDrop table id))

  abbrev row_suited : Bool
  row_suited = has_kind p.kinds table kinds.Attributes

  abbrev row_there : Bool
  row_there = contains_key p.rows (item table id)

  pub row_drop_by_kind : (n : ℕ) → Some n ≡ of_kind (contains_key p.contents table)
      (has_kind p.kinds table kinds.Attributes) [] → Some n ≡ why_row_drop
  row_drop_by_kind n e = kind_first (contains_key p.contents table) row_suited
      ((40, row_suited && not row_there) ∷ (42, is_mapped p table id) ∷ []) n refl refl e

  module _ (free : None ≡ of_kind (contains_key p.contents table) (has_kind p.kinds table kinds.Attributes) []) where
    row_told : (there : Bool) → contains_key p.rows (item table id) ≡ there
        → why_row_drop ≡ of_row_drop true true there (is_mapped p table id)
    row_told there is =
        let k = kind_free (contains_key p.contents table) row_suited free in
        ap (λ x. of_row_drop x row_suited row_there (is_mapped p table id)) k.0
        ∙ ap (λ x. of_row_drop true x row_there (is_mapped p table id)) k.1
        ∙ ap (λ x. of_row_drop true true x (is_mapped p table id)) is

    pub row_drop_40 : contains_key p.rows (item table id) ≡ false → Some 40 ≡ why_row_drop
    row_drop_40 gone = sym (row_told false gone ∙ first_of 40 ((42, is_mapped p table id) ∷ []) refl)

    pub row_drop_42 : contains_key p.rows (item table id) ≡ true → is_mapped p table id ≡ true → Some 42 ≡ why_row_drop
    row_drop_42 there is = sym (row_told true there ∙ ap (of_row_drop true true true) is)

    pub row_drop_free : contains_key p.rows (item table id) ≡ true → is_mapped p table id ≡ false → None ≡ why_row_drop
    row_drop_free there is = sym (row_told true there ∙ ap (of_row_drop true true true) is)

-- ---- media

module _ (p : Package) (table : Text) (id : ℤ) where
  abbrev of_medium_drop : Bool → Bool → Bool → Bool → Option ℕ
  of_medium_drop stands suited there mapped = of_kind stands suited ((41, suited && not there) ∷ (42, mapped) ∷ [])

  abbrev why_medium_drop : Option ℕ
  why_medium_drop = least (piece_reasons p (pieces.MediaDrop table id))

  abbrev medium_suited : Bool
  medium_suited = has_kind p.kinds table kinds.Media

  abbrev medium_there : Bool
  medium_there = contains_key p.media (item table id)

  pub medium_drop_by_kind : (n : ℕ)
      → Some n ≡ of_kind (contains_key p.contents table) (has_kind p.kinds table kinds.Media) []
      → Some n ≡ why_medium_drop
  medium_drop_by_kind n e = kind_first (contains_key p.contents table) medium_suited
      ((41, medium_suited && not medium_there) ∷ (42, is_mapped p table id) ∷ []) n refl refl e

  module _ (free : None ≡ of_kind (contains_key p.contents table) (has_kind p.kinds table kinds.Media) []) where
    medium_told : (there : Bool) → contains_key p.media (item table id) ≡ there
        → why_medium_drop ≡ of_medium_drop true true there (is_mapped p table id)
    medium_told there is =
        let k = kind_free (contains_key p.contents table) medium_suited free in
        ap (λ x. of_medium_drop x medium_suited medium_there (is_mapped p table id)) k.0
        ∙ ap (λ x. of_medium_drop true x medium_there (is_mapped p table id)) k.1
        ∙ ap (λ x. of_medium_drop true true x (is_mapped p table id)) is

    pub medium_drop_41 : contains_key p.media (item table id) ≡ false → Some 41 ≡ why_medium_drop
    medium_drop_41 gone = sym (medium_told false gone ∙ first_of 41 ((42, is_mapped p table id) ∷ []) refl)

    pub medium_drop_42 : contains_key p.media (item table id) ≡ true → is_mapped p table id ≡ true
        → Some 42 ≡ why_medium_drop
    medium_drop_42 there is = sym (medium_told true there ∙ ap (of_medium_drop true true true) is)

    pub medium_drop_free : contains_key p.media (item table id) ≡ true → is_mapped p table id ≡ false
        → None ≡ why_medium_drop
    medium_drop_free there is = sym (medium_told true there ∙ ap (of_medium_drop true true true) is)
