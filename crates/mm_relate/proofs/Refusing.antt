-- For which number a command on relations is refused, from what was looked up.
use Rattle.std.proofs.Common.{◌≡◌, ◌⊎◌, inl, inr, ℕ, ℤ, Bool, true, false, not, ◌&&◌, ◌||◌, [], ◌∷◌, Option, Some, None}
use Rattle.std.proofs.Common.{option_map, is_some, refl, sym, ap, ◌∙◌}
use Rattle.std.specs.FinMap.{get, contains_key}
use Rattle.std.proofs.lemmas.Bool.{false_from_ne_true}
use Rattle.mm_definitions.specs.Bounds.{Profile}
use Rattle.mm_definitions.specs.Keys.{Text, same_text, item, pairing}
use Rattle.mm_definitions.specs.Parts.{at_value}
use Rattle.mm_definitions.specs.Package.{Package, Relation, kind_text, has_kind}
use Rattle.mm_definitions.specs.Rules.{Meets}
use Rattle.mm_definitions.specs.Conditions.{least, smaller, own_reasons, piece_reasons, is_taken, is_plain}
use Rattle.mm_definitions.specs.Conditions.{related_kind, lacks_row, lacks_medium}
use Rattle.mm_definitions.specs.declared.commands.Kind.{Kind}
use Rattle.mm_definitions.specs.declared.commands.Kind.TheVariants as kinds
use Rattle.mm_definitions.specs.declared.commands.RelationName.{RelationName}
use Rattle.mm_definitions.specs.declared.commands.Command.TheVariants as commands
use Rattle.mm_definitions.specs.declared.commands.Piece.TheVariants as pieces
use Rattle.mm_definitions.proofs.Parts.{some_of, not_none}
use Rattle.mm_laws.proofs.Reasons.{none_holds}
use Rattle.mm_definitions.proofs.FirstReason.{first_of}
use Rattle.mm_relate.specs.Relations.{ends, lacks}

-- ---- relation

module _ (profile : Profile) (p : Package) (meets : Meets profile p) (mapping base related : Text) (name : RelationName)
  where
    abbrev of_relation : Bool → Bool → Bool → Bool → Option ℕ
    of_relation based other taken suited =
        least ((25, not based || not other) ∷ (43, taken) ∷ (47, based && other && not suited) ∷ [])

    abbrev based : Bool
    based = contains_key p.contents base

    abbrev other : Bool
    other = contains_key p.contents related

    abbrev taken : Bool
    taken = is_taken p mapping

    abbrev suited : Bool
    suited = is_plain p base && has_kind p.kinds related (related_kind name)

    abbrev why : Option ℕ
    why = least (own_reasons p (commands.Relation mapping base related name))

    unregistered : (table : Text) → get p.kinds table ≡ None → contains_key p.contents table ≡ false
    unregistered table none = false_from_ne_true _ (λ stands. let c = some_of (get p.contents table) stands in let k =
        meets.q5.registered table c.0 c.1 in not_none k.1 none)

    pub relation_25_base : get p.kinds base ≡ None → Some 25 ≡ why
    relation_25_base none = sym (ap (λ b. of_relation b other taken suited) (unregistered base none)
        ∙ first_of 25 ((43, taken) ∷ (47, false) ∷ []) refl)

    module _ (kind : Kind) (has : get p.kinds base ≡ Some (kind_text kind)) where
      base_stands : based ≡ true
      base_stands = meets.q5.of_kinds base (kind_text kind) has

      pub relation_25_related : get p.kinds related ≡ None → Some 25 ≡ why
      relation_25_related none =
          sym (ap (λ b. of_relation b other taken suited) base_stands ∙ ap (λ b. of_relation true b taken suited)
          (unregistered related none) ∙ first_of 25 ((43, taken) ∷ (47, false) ∷ []) refl)

      module _ (mate : Kind) (there : get p.kinds related ≡ Some (kind_text mate)) where
        both_stand : (t s : Bool) → of_relation based other t s ≡ of_relation true true t s
        both_stand t s = ap (λ b. of_relation b other t s) base_stands
            ∙ ap (λ b. of_relation true b t s) (meets.q5.of_kinds related (kind_text mate) there)

        pub relation_43 : is_taken p mapping ≡ true → Some 43 ≡ why
        relation_43 is = sym (both_stand taken suited ∙ ap (λ b. of_relation true true b suited) is
            ∙ first_of 43 ((47, not suited) ∷ []) refl)

        abbrev kinds_suit : Bool
        kinds_suit = (same_text (kind_text kinds.Attributes) (kind_text kind) || same_text (kind_text kinds.Media)
            (kind_text kind)) && same_text (kind_text (related_kind name)) (kind_text mate)

        suit_told : suited ≡ kinds_suit
        suit_told =
            ap (λ v. (at_value (same_text (kind_text kinds.Attributes)) v
            || at_value (same_text (kind_text kinds.Media))
            v) && has_kind p.kinds related (related_kind name)) has
            ∙ ap (λ v. (same_text (kind_text kinds.Attributes) (kind_text kind) || same_text (kind_text kinds.Media)
            (kind_text kind)) && at_value (same_text (kind_text (related_kind name))) v) there

        told : (b : Bool) → is_taken p mapping ≡ false → kinds_suit ≡ b → why ≡ of_relation true true false b
        told b free is = both_stand taken suited ∙ ap (λ t. of_relation true true t suited) free
            ∙ ap (of_relation true true false) (suit_told ∙ is)

        pub relation_47 : is_taken p mapping ≡ false → kinds_suit ≡ false → Some 47 ≡ why
        relation_47 free off = sym (told false free off)

        pub relation_free : is_taken p mapping ≡ false → kinds_suit ≡ true → None ≡ why
        relation_free free on = sym (told true free on)

-- ---- relation-drop

module _ (p : Package) (mapping : Text) where
  abbrev of_relation_drop : Bool → Option ℕ
  of_relation_drop stands = least ((44, not stands) ∷ [])

  pub relation_drop_44 : contains_key p.relations mapping ≡ false
      → least (own_reasons p (commands.RelationDrop mapping)) ≡ Some 44
  relation_drop_44 gone = ap of_relation_drop gone

  pub relation_drop_free : contains_key p.relations mapping ≡ true
      → least (own_reasons p (commands.RelationDrop mapping)) ≡ None
  relation_drop_free stands = ap of_relation_drop stands

-- ---- what an end lacks

module _ (p : Package) (table : Text) (id : ℤ) where
  abbrev of_end : Option Text → Bool → Bool → Option ℕ
  of_end kind row medium = least ((40, at_value (same_text (kind_text kinds.Attributes)) kind && not row)
      ∷ (41, at_value (same_text (kind_text kinds.Media)) kind && not medium) ∷ [])

  abbrev row_there : Bool
  row_there = contains_key p.rows (item table id)

  abbrev medium_there : Bool
  medium_there = contains_key p.media (item table id)

  abbrev of_either : Option ℕ
  of_either = least ((40, lacks_row p table id) ∷ (41, lacks_medium p table id) ∷ [])

  pub unregistered_end : get p.kinds table ≡ None → None ≡ of_either
  unregistered_end none = sym (ap (λ k. of_end k row_there medium_there) none)

  pub row_end : get p.kinds table ≡ Some (kind_text kinds.Attributes) → (b : Bool) → row_there ≡ b
      → of_end (Some (kind_text kinds.Attributes)) b false ≡ of_either
  row_end has b is = sym (ap (λ k. of_end k row_there medium_there) has
      ∙ ap (λ r. of_end (Some (kind_text kinds.Attributes)) r medium_there) is)

  pub medium_end : get p.kinds table ≡ Some (kind_text kinds.Media) → (b : Bool) → medium_there ≡ b
      → of_end (Some (kind_text kinds.Media)) false b ≡ of_either
  medium_end has b is = sym (ap (λ k. of_end k row_there medium_there) has
      ∙ ap (λ m. of_end (Some (kind_text kinds.Media)) row_there m) is)

  pub pyramid_end : (kind : Kind) → get p.kinds table ≡ Some (kind_text kind) → (kind ≡ kinds.Two)
      ⊎ (kind ≡ kinds.Other) → None ≡ of_either
  pyramid_end kind has (inl two) =
      sym (ap (λ k. of_end k row_there medium_there) (has ∙ ap (λ k. Some (kind_text k)) two))
  pyramid_end kind has (inr other) =
      sym (ap (λ k. of_end k row_there medium_there) (has ∙ ap (λ k. Some (kind_text k)) other))

-- what two ends lack is what the one or the other lacks
pub either_lacks : (a b c d : Bool) → smaller (least ((40, a) ∷ (41, b) ∷ [])) (least ((40, c) ∷ (41, d) ∷ []))
    ≡ least ((40, a || c) ∷ (41, b || d) ∷ [])
either_lacks true true true true = refl
either_lacks true true true false = refl
either_lacks true true false true = refl
either_lacks true true false false = refl
either_lacks true false true true = refl
either_lacks true false true false = refl
either_lacks true false false true = refl
either_lacks true false false false = refl
either_lacks false true true true = refl
either_lacks false true true false = refl
either_lacks false true false true = refl
either_lacks false true false false = refl
either_lacks false false true true = refl
either_lacks false false true false = refl
either_lacks false false false true = refl
either_lacks false false false false = refl

-- ---- map

ends_first : (a b paired : Bool) (n : ℕ) → Some n ≡ least ((40, a) ∷ (41, b) ∷ [])
    → Some n ≡ least ((40, a) ∷ (41, b) ∷ (44, false) ∷ (45, paired) ∷ [])
ends_first true b paired n e = e ∙ first_of 40 ((41, b) ∷ []) refl
    ∙ sym (first_of 40 ((41, b) ∷ (44, false) ∷ (45, paired) ∷ []) refl)
ends_first false true paired n e = e ∙ sym (first_of 41 ((44, false) ∷ (45, paired) ∷ []) refl)
ends_first false false paired n e = absurd (let f : ◌≡◌ {A = Option ℕ} (Some n) None = e in cc)

ends_free : (a b : Bool) → None ≡ least ((40, a) ∷ (41, b) ∷ []) → (a ≡ false) × (b ≡ false)
ends_free true b e = absurd (let f : ◌≡◌ {A = Option ℕ} None (Some 40) = e ∙ first_of 40 ((41, b) ∷ []) refl in cc)
ends_free false true e = absurd (let f : ◌≡◌ {A = Option ℕ} None (Some 41) = e in cc)
ends_free false false e = (refl, refl)

module _ (p : Package) (mapping : Text) (base_id related_id : ℤ) where
  abbrev no_row : Text × Text → Bool
  no_row tables = lacks_row p tables.0 base_id || lacks_row p tables.1 related_id

  abbrev no_medium : Text × Text → Bool
  no_medium tables = lacks_medium p tables.0 base_id || lacks_medium p tables.1 related_id

  abbrev paired : Bool
  paired = contains_key p.pairings (pairing mapping base_id related_id)

  abbrev of_map : Option Relation → Option ℕ
  of_map r = least ((40, at_value (λ (v : Relation). no_row (ends v)) r)
      ∷ (41, at_value (λ (v : Relation). no_medium (ends v)) r) ∷ (44, not (is_some r)) ∷ (45, paired) ∷ [])

  abbrev why_map : Option ℕ
  why_map = least (piece_reasons p (pieces.Map mapping base_id related_id))

  pub map_44 : option_map ends (get p.relations mapping) ≡ None → Some 44 ≡ why_map
  map_44 none = sym (ap of_map (unrelated (get p.relations mapping) none) ∙ first_of 44 ((45, paired) ∷ []) refl)
    where
      unrelated : (o : Option Relation) → option_map ends o ≡ None → o ≡ None
      unrelated None e = refl
      unrelated (Some r) e = absurd (let f : ◌≡◌ {A = Option (Text × Text)} (Some (ends r)) None = e in cc)

  module _ (tables : Text × Text) (has : option_map ends (get p.relations mapping) ≡ Some tables) where
    abbrev of_ends : Text × Text → Bool → Option ℕ
    of_ends t b = least ((40, no_row t) ∷ (41, no_medium t) ∷ (44, false) ∷ (45, b) ∷ [])

    related_by : (o : Option Relation) → option_map ends o ≡ Some tables → (r : Relation) × (o ≡ Some r)
        × (ends r ≡ tables)
    related_by None e = absurd (let f : ◌≡◌ {A = Option (Text × Text)} None (Some tables) = e in cc)
    related_by (Some r) e = (r, refl, cc)

    map_told : (b : Bool) → paired ≡ b → why_map ≡ of_ends tables b
    map_told b is = let r = related_by (get p.relations mapping) has in ap of_map r.1 ∙ ap (λ t. of_ends t paired) r.2
        ∙ ap (of_ends tables) is

    pub map_by_ends : (n : ℕ) → Some n ≡ lacks p tables base_id related_id → Some n ≡ why_map
    map_by_ends n e = ends_first (no_row tables) (no_medium tables) paired n e ∙ sym (map_told paired refl)

    module _ (free : None ≡ lacks p tables base_id related_id) where
      ends_there : (b : Bool) → of_ends tables b ≡ least ((40, false) ∷ (41, false) ∷ (44, false) ∷ (45, b) ∷ [])
      ends_there b =
          let f = ends_free (no_row tables) (no_medium tables) free in
          ap (λ x. least ((40, x) ∷ (41, no_medium tables) ∷ (44, false) ∷ (45, b) ∷ [])) f.0
          ∙ ap (λ x. least ((40, false) ∷ (41, x) ∷ (44, false) ∷ (45, b) ∷ [])) f.1

      pub map_45 : contains_key p.pairings (pairing mapping base_id related_id) ≡ true → Some 45 ≡ why_map
      map_45 is = sym (map_told true is ∙ ends_there true)

      pub map_free : contains_key p.pairings (pairing mapping base_id related_id) ≡ false → None ≡ why_map
      map_free is = sym (map_told false is ∙ ends_there false)

  -- a mapping row that is not refused is new
  pub map_is_new : None ≡ why_map → contains_key p.pairings (pairing mapping base_id related_id) ≡ false
  map_is_new none = (none_holds (piece_reasons p (pieces.Map mapping base_id related_id)) (sym none)).1.1.1.0

  -- ---- map-drop

  abbrev of_map_drop : Bool → Bool → Option ℕ
  of_map_drop stands there = least ((44, not stands) ∷ (46, stands && not there) ∷ [])

  abbrev why_map_drop : Option ℕ
  why_map_drop = least (piece_reasons p (pieces.MapDrop mapping base_id related_id))

  pub map_drop_44 : contains_key p.relations mapping ≡ false → Some 44 ≡ why_map_drop
  map_drop_44 gone = sym (ap (λ b. of_map_drop b paired) gone)

  pub map_drop_46 : contains_key p.relations mapping ≡ true
      → contains_key p.pairings (pairing mapping base_id related_id) ≡ false → Some 46 ≡ why_map_drop
  map_drop_46 stands gone = sym (ap (λ b. of_map_drop b paired) stands ∙ ap (of_map_drop true) gone)

  pub map_drop_free : contains_key p.relations mapping ≡ true
      → contains_key p.pairings (pairing mapping base_id related_id) ≡ true → None ≡ why_map_drop
  map_drop_free stands there = sym (ap (λ b. of_map_drop b paired) stands ∙ ap (of_map_drop true) there)
