-- A pyramid or another table that is put keeps the rules.
use Rattle.std.proofs.Common.{◌≡◌, ◌≢◌, ℕ, ℤ, pos, ◌<ℤ◌, true, false, [], Option, Some, None, IfSome, int_le, codes}
use Rattle.std.proofs.Common.{refl, sym, ap, subst, ◌∙◌, ◌⊎◌, inl, inr, is_some, arith}
use Rattle.std.proofs.lemmas.Int.{ints}
use Rattle.std.specs.FinMap.{FinMap, get, contains_key, insert}
use Rattle.std.proofs.lemmas.Bool.{not-false}
use Rattle.mm_definitions.specs.Keys.{Text, text_cmp, same_text, same_number, level, Extension, extension_cmp}
use Rattle.mm_definitions.specs.Parts.{Each, Has, Stands}
use Rattle.mm_definitions.specs.Package.{Package, Contents, Box, MatrixSet, Kinds, kind_text, HasKind, IsPyramid}
use Rattle.mm_definitions.specs.Package.{Relation, zoom_extension}
use Rattle.mm_definitions.specs.Bounds.{Profile, IsName}
use Rattle.mm_definitions.specs.Rules.{Meets, MayName, IsHalved, IsUnplaced, IsPlaced, IsPlacedAt, IsOrdered, Suits}
use Rattle.mm_definitions.specs.Rules.{FitsIn, IsSuited, IsWanted, ExactExtensions, DistinctIdentifiers}
use Rattle.mm_definitions.specs.Rules.{ContentsWithin, KindWithin, SetWithin, ExtensionWithin}
use Rattle.mm_definitions.specs.Conditions.{own_reasons, is_identified}
use Rattle.mm_definitions.specs.Effects.{with_pyramid, with_zoom_row, step_kind, plain_kind}
use Rattle.mm_definitions.specs.declared.commands.Kind.{Kind}
use Rattle.mm_definitions.specs.declared.commands.Kind.TheVariants as kinds
use Rattle.mm_definitions.specs.declared.commands.Step.{Step}
use Rattle.mm_definitions.specs.declared.commands.Step.TheVariants as steps
use Rattle.mm_definitions.specs.declared.commands.PlainKind.{PlainKind}
use Rattle.mm_definitions.specs.declared.commands.PlainKind.TheVariants as plain
use Rattle.mm_definitions.specs.declared.commands.Command.TheVariants as commands
use Rattle.mm_definitions.proofs.Parts.{each_put, stands_after_put, after_put, kept_by_new, at_put, beside_put, lacks}
use Rattle.mm_definitions.proofs.Parts.{no_entry, either_false, same_itself, same_key, none_of}
use Rattle.mm_definitions.proofs.CleanTexts.{ascii_is_clean, name_is_clean}
use Rattle.mm_definitions.proofs.KeyLaws.{numbers, texts, extension_keys}
use Rattle.mm_laws.proofs.Kept.{Keeps}
use Rattle.mm_laws.proofs.Reasons.{none_holds}
use Rattle.mm_laws.proofs.KindFacts.{differ, kind_is_clean}
use Rattle.mm_laws.proofs.Systems.{if_some_more}

-- ---- extension rows
pub put_once : (m : FinMap extension_cmp ℕ) (k e : Extension) → (e ≡ k) ⊎ Has m e 1 → Has (insert m k 1) e 1
put_once m k e (inl s) = ap (get (insert m k 1)) s ∙ at_put extension_keys m k 1
put_once m k e (inr a) = elim (same_key extension_keys e k) as (λ _. Has (insert m k 1) e 1) [
  | inl s ↦ ap (get (insert m k 1)) s.0 ∙ at_put extension_keys m k 1
  | inr n ↦ beside_put extension_keys m k 1 e n.0 ∙ a
]

-- ---- a table that is new
module _ (profile : Profile) (p : Package) (h : Meets profile p) (table : Text) (row : Contents) (kind : Kind)
    (free : contains_key p.contents table ≡ false) (no_mapping : contains_key p.relations table ≡ false)
    (named : is_identified p row.identifier ≡ false) where
  abbrev pub next_contents : FinMap text_cmp Contents
  next_contents = insert p.contents table row

  abbrev pub next_kinds : Kinds
  next_kinds = insert p.kinds table (kind_text kind)

  -- the registry and the matrix sets lack it too
  pub no_kind : (k : Text) → Has p.kinds table k → ⊥
  no_kind k e = lacks p.contents table free (h.q5.of_kinds table k e)

  pub no_set : (s : MatrixSet) → Has p.sets table s → ⊥
  no_set s e = lacks p.contents table free (h.q5.of_sets table s e)

  absent : {X : Type 0} (m : FinMap text_cmp X) → ((x : X) → Has m table x → ⊥) → contains_key m table ≡ false
  absent m none = elim (get m table) as (λ v. get m table ≡ v → is_some v ≡ false)
      [ None ↦ λ e. refl | Some x ↦ λ e. absurd (none x e) ] refl

  kind_free : contains_key p.kinds table ≡ false
  kind_free = absent p.kinds no_kind

  pub set_free : contains_key p.sets table ≡ false
  set_free = absent p.sets no_set

  kind_stays : (t : Text) (k : Kind) → HasKind p.kinds t k → HasKind next_kinds t k
  kind_stays t k e = kept_by_new texts p.kinds table (kind_text kind) kind_free t (kind_text k) e

  kind_was : (t : Text) (k : Kind) → HasKind next_kinds t k → ((t ≡ table) × (kind_text kind ≡ kind_text k))
      ⊎ HasKind p.kinds t k
  kind_was t k e = elim (after_put texts p.kinds table (kind_text kind) t (kind_text k) e) as (λ _.
      ((t ≡ table) × (kind_text kind ≡ kind_text k)) ⊎ HasKind p.kinds t k) [ inl s ↦ inl s | inr n ↦ inr n.1 ]

  pyramid_stays : (t : Text) → IsPyramid p.kinds t → IsPyramid next_kinds t
  pyramid_stays t e = elim e as (λ _. IsPyramid next_kinds t)
      [ inl a ↦ inl (kind_stays t kinds.Two a) | inr b ↦ inr (kind_stays t kinds.Other b) ]

  -- no pyramid of before is the table
  elsewhere : (t : Text) → IsPyramid p.kinds t → t ≢ table
  elsewhere t e same = elim e as (λ _. ⊥)
      [ inl a ↦ no_kind _ (ap (get p.kinds) (sym same) ∙ a) | inr b ↦ no_kind _ (ap (get p.kinds) (sym same) ∙ b) ]

  -- a table of before may name the systems that it did
  pub may_still : (t : Text) (s : ℤ) → t ≢ table → MayName p.systems p.kinds t s → MayName p.systems next_kinds t s
  may_still t s n m = (
    m.0,
    λ new. m.1 (elim new as (λ _. IsPyramid p.kinds t) [
      | inl a ↦ inl (sym (beside_put texts p.kinds table (kind_text kind) t n) ∙ a)
      | inr b ↦ inr (sym (beside_put texts p.kinds table (kind_text kind) t n) ∙ b)
    ]),
  )

  -- of the sets of before, too
  pub set_may_still : (t : Text) (s : MatrixSet) → Has p.sets t s → MayName p.systems next_kinds t s.system
  set_may_still t s e = may_still t s.system (λ same. no_set s (ap (get p.sets) (sym same) ∙ e)) (h.q2.of_sets t s e)

  distinct : DistinctIdentifiers next_contents
  distinct t c e u d f same =
      elim (after_put texts p.contents table row t c e) as (λ _. t ≡ u) [
        | inl a ↦ elim (after_put texts p.contents table row u d f) as (λ _. t ≡ u) [
          | inl b ↦ a.0 ∙ sym b.0
          | inr b ↦ absurd (differ d.identifier row.identifier
              (no_entry texts (λ _ x. same_text x.identifier row.identifier) p.contents named u d b.1)
              (sym (ap (λ (x : Contents). x.identifier) a.1 ∙ same)))
        ]
        | inr a ↦ elim (after_put texts p.contents table row u d f) as (λ _. t ≡ u) [
          | inl b ↦ absurd (differ c.identifier row.identifier
              (no_entry texts (λ _ x. same_text x.identifier row.identifier) p.contents named t c a.1)
              (same ∙ sym (ap (λ (x : Contents). x.identifier) b.1)))
          | inr b ↦ h.q3 t c a.1 u d b.1 same
        ]
      ]

  no_table : (mapping : Text) (r : Relation) → Has p.relations mapping r → get next_contents mapping ≡ None
  no_table mapping r e =
      beside_put texts p.contents table row mapping
      (λ s. let f : true ≡ false = sym (ap is_some (ap (get p.relations) (sym s) ∙ e)) ∙ no_mapping in cc)
      ∙ (h.q4.of_mappings mapping r e).1

  contents_stay : (t : Text) → Stands p.contents t → Stands next_contents t
  contents_stay = stands_after_put texts p.contents table row

  suited_stays : (r : Relation) → IsSuited p.kinds r → IsSuited next_kinds r
  suited_stays r s = record {
    base = elim s.base as (λ _. HasKind next_kinds r.base kinds.Attributes ⊎ HasKind next_kinds r.base kinds.Media) [
      | inl a ↦ inl (kind_stays r.base kinds.Attributes a)
      | inr b ↦ inr (kind_stays r.base kinds.Media b)
    ];
    related = elim s.related as (λ _. ((r.name ≡ codes "media") × HasKind next_kinds r.related kinds.Media) ⊎ ((r.name ≡ codes "simple_attributes") × HasKind next_kinds r.related kinds.Attributes)) [
      | inl a ↦ inl (a.0, kind_stays r.related kinds.Media a.1)
      | inr b ↦ inr (b.0, kind_stays r.related kinds.Attributes b.1)
    ];
    base_column = s.base_column;
    related_column = s.related_column;
  }

  wanted_stays : (e : Extension) → IsWanted p.kinds p.relations e → IsWanted next_kinds p.relations e
  wanted_stays e (inl a) = inl a
  wanted_stays e (inr (inl m)) = inr (inl m)
  wanted_stays e (inr (inr t)) = inr (inr (t.0, kind_stays t.0 kinds.Other t.1, t.2))

  wanted_was : (e : Extension) → IsWanted next_kinds p.relations e
      → ((kind_text kind ≡ kind_text kinds.Other) × (e ≡ zoom_extension table)) ⊎ IsWanted p.kinds p.relations e
  wanted_was e (inl a) = inr (inl a)
  wanted_was e (inr (inl m)) = inr (inr (inl m))
  wanted_was e (inr (inr t)) = elim (kind_was t.0 kinds.Other t.1) as
      (λ _. ((kind_text kind ≡ kind_text kinds.Other) × (e ≡ zoom_extension table)) ⊎ IsWanted p.kinds p.relations e) [
        | inl s ↦ inl (s.1, t.2 ∙ ap zoom_extension s.0)
        | inr b ↦ inr (inr (inr (t.0, b, t.2)))
      ]

  -- the extension rows, where the table's kind wants none
  pub plain_extensions : kind_text kind ≢ kind_text kinds.Other → ExactExtensions next_kinds p.relations p.extensions
  plain_extensions n = record {
    only = λ e count f. (wanted_stays e (h.q14.only e count f).0, (h.q14.only e count f).1);
    all = λ e w. elim (wanted_was e w) as (λ _. Has p.extensions e 1)
        [ inl s ↦ absurd (n s.0) | inr b ↦ h.q14.all e b ];
  }

  -- and where it wants one
  pub other_extensions : kind_text kind ≡ kind_text kinds.Other
      → ExactExtensions next_kinds p.relations (insert p.extensions (zoom_extension table) 1)
  other_extensions same = record {
    only = each_put extension_keys p.extensions (zoom_extension table) 1 (λ e count. IsWanted next_kinds p.relations e
        × (count ≡ 1))
        (λ e count f. (wanted_stays e (h.q14.only e count f).0, (h.q14.only e count f).1))
        (inr (inr (table, at_put texts p.kinds table (kind_text kind) ∙ ap Some same, refl)), refl);
    all = λ e w. put_once p.extensions (zoom_extension table) e
        (elim (wanted_was e w) as (λ _. (e ≡ zoom_extension table) ⊎ Has p.extensions e 1)
        [ inl s ↦ inl s.1 | inr b ↦ inr (h.q14.all e b) ]);
  }

  -- what is to be shown of the new table itself
  pub record Suited (sets : FinMap text_cmp MatrixSet) (extensions : FinMap extension_cmp ℕ) : Type 0 where
    pub name : IsName table
    pub suits : Suits kind row (get sets table)
    pub system : IfSome row.system (MayName p.systems next_kinds table)
    pub ordered : IsOrdered row.min_x row.max_x × IsOrdered row.min_y row.max_y
    pub limits : ContentsWithin profile table row
    pub beside : (t : Text) → t ≢ table → get sets t ≡ get p.sets t
    pub set_systems : Each sets (λ t s. MayName p.systems next_kinds t s.system)
    pub set_tables : Each sets (λ t _. Stands next_contents t)
    pub set_extents : Each sets (λ _ s. (s.box.min_x <ℤ s.box.max_x) × (s.box.min_y <ℤ s.box.max_y))
    pub set_limits : Each sets (SetWithin profile)
    pub extension_limits : Each extensions ExtensionWithin
    pub exact : ExactExtensions next_kinds p.relations extensions

  pub keeps_with : (next_sets : FinMap text_cmp MatrixSet) (next_extensions : FinMap extension_cmp ℕ)
      → Suited next_sets next_extensions
      → Meets profile (record p {
        contents = next_contents;
        kinds = next_kinds;
        sets = next_sets;
        extensions = next_extensions;
      })
  keeps_with next_sets next_extensions s = record {
    q1 = h.q1;
    q2 = record {
      of_contents = λ t c e. elim (after_put texts p.contents table row t c e) as
          (λ _. IfSome c.system (MayName p.systems next_kinds t)) [
            | inl a ↦ subst (λ d. IfSome d.system (MayName p.systems next_kinds t)) a.1
                (subst (λ u. IfSome row.system (MayName p.systems next_kinds u)) (sym a.0) s.system)
            | inr b ↦ if_some_more c.system (MayName p.systems p.kinds t) (MayName p.systems next_kinds t)
                (λ n. may_still t n b.0) (h.q2.of_contents t c b.1)
          ];
      of_sets = s.set_systems;
    };
    q3 = distinct;
    q4 = record {
      of_tables = each_put texts p.contents table row (λ t _. IsName t) h.q4.of_tables s.name;
      of_mappings = λ m r e. ((h.q4.of_mappings m r e).0, no_table m r e);
      of_editions = h.q4.of_editions;
    };
    q5 = record {
      registered = λ t c e. elim (after_put texts p.contents table row t c e) as
          (λ _. (k : Kind) × HasKind next_kinds t k × Suits k c (get next_sets t)) [
            | inl a ↦ (
              kind,
              ap (get next_kinds) a.0 ∙ at_put texts p.kinds table (kind_text kind),
              subst (λ c. Suits kind c (get next_sets t)) a.1
                  (subst (λ u. Suits kind row (get next_sets u)) (sym a.0) s.suits),
            )
            | inr b ↦ let r = h.q5.registered t c b.1 in
                (r.0, kind_stays t r.0 r.1, subst (λ v. Suits r.0 c v) (sym (s.beside t b.0)) r.2)
          ];
      of_kinds = each_put texts p.kinds table (kind_text kind) (λ t _. Stands next_contents t)
          (λ t k e. contents_stay t (h.q5.of_kinds t k e)) (ap is_some (at_put texts p.contents table row));
      of_sets = s.set_tables;
    };
    q6 = record {
      of_sets = s.set_extents;
      of_contents = each_put texts p.contents table row
          (λ _ c. IsOrdered c.min_x c.max_x × IsOrdered c.min_y c.max_y) h.q6.of_contents s.ordered;
    };
    q7 = λ k g e. let old = h.q7 k g e in
        (pyramid_stays k.table old.0, subst (λ v. FitsIn v g) (sym (s.beside k.table (elsewhere k.table old.0))) old.1);
    q8 = h.q8;
    q9 = λ t zoom a b two e f. elim (kind_was t kinds.Two two) as (λ _. IsHalved a b) [
      | inl x ↦ absurd (elsewhere t (h.q7 (level t zoom) a e).0 x.0)
      | inr y ↦ h.q9 t zoom a b y e f
    ];
    q10 = h.q10;
    q11 = record {
      of_rows = λ k x e. kind_stays k.table kinds.Attributes (h.q11.of_rows k x e);
      of_media = λ k x e. kind_stays k.table kinds.Media (h.q11.of_media k x e);
    };
    q12 = λ m r e. suited_stays r (h.q12 m r e);
    q13 = h.q13;
    q14 = s.exact;
    q15 = h.q15;
    q16 = record {
      systems = h.q16.systems;
      contents = each_put texts p.contents table row (ContentsWithin profile) h.q16.contents s.limits;
      kinds = each_put texts p.kinds table (kind_text kind) KindWithin h.q16.kinds (s.name, kind_is_clean kind);
      sets = s.set_limits;
      matrices = h.q16.matrices;
      extensions = s.extension_limits;
      tiles = h.q16.tiles;
      rows = h.q16.rows;
      media = h.q16.media;
      relations = h.q16.relations;
      pairings = h.q16.pairings;
      editions = h.q16.editions;
      pieces = h.q16.pieces;
    };
  }

-- ---- a pyramid
pub less : (a b : ℤ) → int_le b a ≡ false → a <ℤ b
less a b e = grind (arith, ints)

not_number : (a b : ℤ) → same_number a b ≡ false → a ≢ b
not_number a b f e = let t : same_number a b ≡ true = ap (same_number a) (sym e)
    ∙ same_itself numbers a in let g : true ≡ false = sym t ∙ f in cc

pub table_put : (table : Text) (kind : PlainKind) (identifier : Text) → Keeps (commands.Table table kind identifier)
table_put table kind identifier profile p moment stamp h within low is none =
    let r = none_holds (own_reasons p (commands.Table table kind identifier)) none in
    let taken = either_false (contains_key p.contents table) (contains_key p.relations table) r.0 in
    let row : Contents = record {
      data_type = codes "attributes";
      identifier = identifier;
      description = [];
      last_change = stamp;
      min_x = None;
      min_y = None;
      max_x = None;
      max_y = None;
      system = None;
    } in
    let absent : get p.sets table ≡ None = none_of (get p.sets table)
    (set_free profile p h table row (plain_kind kind) taken.0 taken.1 r.1.0) in
    keeps_with profile p h table row (plain_kind kind) taken.0 taken.1 r.1.0 p.sets p.extensions (record {
      name = within.0;
      suits = unplaced kind row (get p.sets table) (refl, refl, refl, refl, refl, refl, absent);
      system = tt;
      ordered = (tt, tt);
      limits = record {
        table = within.0;
        data_type = ascii_is_clean (codes "attributes") refl refl;
        identifier = within.1;
        description = refl;
        last_change = (moment, low, is);
        min_x = tt;
        min_y = tt;
        max_x = tt;
        max_y = tt;
        system = tt;
      };
      beside = λ t n. refl;
      set_systems = set_may_still profile p h table row (plain_kind kind) taken.0 taken.1 r.1.0;
      set_tables = λ t s e. stands_after_put texts p.contents table row t (h.q5.of_sets t s e);
      set_extents = h.q6.of_sets;
      set_limits = h.q16.sets;
      extension_limits = h.q16.extensions;
      exact = plain_extensions profile p h table row (plain_kind kind) taken.0 taken.1 r.1.0 (not_other kind);
    })
  where
    unplaced : (kind : PlainKind) (c : Contents) (s : Option MatrixSet) → IsUnplaced c s → Suits (plain_kind kind) c s
    unplaced plain.Attributes c s u = u
    unplaced plain.Media c s u = u

    not_other : (kind : PlainKind) → kind_text (plain_kind kind) ≢ kind_text kinds.Other
    not_other plain.Attributes = differ (kind_text kinds.Attributes) (kind_text kinds.Other) refl
    not_other plain.Media = differ (kind_text kinds.Media) (kind_text kinds.Other) refl

pub pyramid_put : (table identifier : Text) (srs min_x min_y max_x max_y : ℤ) (step : Step)
    → Keeps (commands.Pyramid table identifier srs min_x min_y max_x max_y step)
pyramid_put table identifier srs min_x min_y max_x max_y step profile p moment stamp h within low is none =
    let r = none_holds (own_reasons p (commands.Pyramid table identifier srs min_x min_y max_x max_y step)) none in
    let plane = either_false (same_number srs (pos 0)) (same_number srs (pos 4326)) r.1.0 in
    let taken = either_false (contains_key p.contents table) (contains_key p.relations table) r.1.1.0 in
    let named = r.1.1.1.0 in
    let extent = either_false (int_le max_x min_x) (int_le max_y min_y) r.1.1.1.1.0 in
    let box : Box = record { min_x = min_x; min_y = min_y; max_x = max_x; max_y = max_y } in
    let row : Contents = record {
      data_type = codes "tiles";
      identifier = identifier;
      description = [];
      last_change = stamp;
      min_x = Some min_x;
      min_y = Some min_y;
      max_x = Some max_x;
      max_y = Some max_y;
      system = Some srs;
    } in
    let set : MatrixSet = record { system = srs; box = box } in
    let sets = insert p.sets table set in
    let may : MayName p.systems (insert p.kinds table (kind_text (step_kind step))) table srs = (
      not-false (contains_key p.systems srs) r.0,
      λ _.
          (not_number srs (pos 0) plane.0, not_number srs (pos 4326) plane.1),
    ) in
    let suits : (kind : Step) → Suits (step_kind kind) row (get sets table) =
    placed row set (get sets table) (at_put texts p.sets table set)
    (record { data_type = refl; system = refl; min_x = refl; min_y = refl; max_x = refl; max_y = refl }) in
    let suited : (extensions : FinMap extension_cmp ℕ)
    → ExactExtensions (insert p.kinds table (kind_text (step_kind step))) p.relations extensions
    → Each extensions ExtensionWithin
    → Suited profile p h table row (step_kind step) taken.0 taken.1 named sets extensions = λ extensions exact limits.
    record {
      name = within.0;
      suits = suits step;
      system = may;
      ordered = (less min_x max_x extent.0, less min_y max_y extent.1);
      limits = record {
        table = within.0;
        data_type = ascii_is_clean (codes "tiles") refl refl;
        identifier = within.1;
        description = refl;
        last_change = (moment, low, is);
        min_x = within.3;
        min_y = within.4;
        max_x = within.5;
        max_y = within.6;
        system = within.2;
      };
      beside = λ t n. beside_put texts p.sets table set t n;
      set_systems = each_put texts p.sets table set
          (λ t s. MayName p.systems (insert p.kinds table (kind_text (step_kind step))) t s.system)
          (set_may_still profile p h table row (step_kind step) taken.0 taken.1 named) may;
      set_tables = each_put texts p.sets table set (λ t _. Stands (insert p.contents table row) t)
          (λ t s e. stands_after_put texts p.contents table row t (h.q5.of_sets t s e))
          (ap is_some (at_put texts p.contents table row));
      set_extents = each_put texts p.sets table set (λ _ s. (s.box.min_x <ℤ s.box.max_x) × (s.box.min_y <ℤ s.box.max_y))
          h.q6.of_sets (less min_x max_x extent.0, less min_y max_y extent.1);
      set_limits = each_put texts p.sets table set (SetWithin profile) h.q16.sets
          (record {
            table = within.0;
            system = within.2;
            box = record { min_x = within.3; min_y = within.4; max_x = within.5; max_y = within.6 };
          });
      extension_limits = limits;
      exact = exact;
    } in
    by_step step (λ s. Meets profile (with_zoom_row (with_pyramid p table identifier srs box step stamp) table s))
    (λ e. keeps_with profile p h table row (step_kind step) taken.0 taken.1 named sets p.extensions
    (suited p.extensions (plain_extensions profile p h table row (step_kind step) taken.0 taken.1 named
    (is_two step e)) h.q16.extensions))
    (λ e. keeps_with profile p h table row (step_kind step) taken.0 taken.1 named sets
    (insert p.extensions (zoom_extension table) 1)
    (suited (insert p.extensions (zoom_extension table) 1)
    (other_extensions profile p h table row (step_kind step) taken.0 taken.1 named (is_other step e))
    (each_put extension_keys p.extensions (zoom_extension table) 1 ExtensionWithin h.q16.extensions (record {
      table = name_is_clean table within.0;
      column = ascii_is_clean (codes "tile_data") refl refl;
      name = ascii_is_clean (zoom_extension table).name refl refl;
      definition = ascii_is_clean (zoom_extension table).definition refl refl;
      scope = ascii_is_clean (zoom_extension table).scope refl refl;
    }))))
  where
    placed : (c : Contents) (s : MatrixSet) (v : Option MatrixSet) → v ≡ Some s → IsPlacedAt c s → (kind : Step)
        → Suits (step_kind kind) c v
    placed c s v e at steps.Two = subst (λ w. IsPlaced c w) (sym e) at
    placed c s v e at steps.Other = subst (λ w. IsPlaced c w) (sym e) at

    is_two : (s : Step) → s ≡ steps.Two → kind_text (step_kind s) ≢ kind_text kinds.Other
    is_two steps.Two e = differ (kind_text kinds.Two) (kind_text kinds.Other) refl
    is_two steps.Other e = absurd (cc)

    is_other : (s : Step) → s ≡ steps.Other → kind_text (step_kind s) ≡ kind_text kinds.Other
    is_other s e = ap (λ t. kind_text (step_kind t)) e

    by_step : (s : Step) (P : Step → Type 0) → (s ≡ steps.Two → P steps.Two) → (s ≡ steps.Other → P steps.Other) → P s
    by_step steps.Two P a b = a refl
    by_step steps.Other P a b = b refl
