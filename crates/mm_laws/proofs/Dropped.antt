-- A table that is dropped, and a relation or edition that is, keep the rules.
use Rattle.std.proofs.Common.{◌≡◌, ◌≢◌, ℤ, pos, ◌+ℤ◌, true, false, not, ◌||◌, Option, Some, None, codes, refl, sym, ap}
use Rattle.std.proofs.Common.{subst, ◌∙◌, ◌⊎◌, inl, inr, is_some}
use Rattle.std.specs.FinMap.{get, remove, retain_keys}
use Rattle.mm_definitions.specs.Keys.{Text, same_text, level, item, Pairing, Extension}
use Rattle.mm_definitions.specs.Parts.{Has, Stands}
use Rattle.mm_definitions.specs.Package.{Package, kind_text, HasKind, IsPyramid, Relation, general_extension}
use Rattle.mm_definitions.specs.Package.{mapping_extension, zoom_extension}
use Rattle.mm_definitions.specs.Bounds.{Profile, IsName}
use Rattle.mm_definitions.specs.Rules.{Meets, MayName, IsOrdered, Suits, FitsIn, IsInside, IsSuited, HasItem, Joins}
use Rattle.mm_definitions.specs.Rules.{IsWanted, ContentsWithin, KindWithin, SetWithin, MatrixWithin, ExtensionWithin}
use Rattle.mm_definitions.specs.Rules.{TileWithin, RowWithin, MediumWithin}
use Rattle.mm_definitions.specs.Conditions.{own_reasons, is_used}
use Rattle.mm_definitions.specs.Effects.{is_other, without_table}
use Rattle.mm_definitions.specs.declared.commands.Kind.{Kind}
use Rattle.mm_definitions.specs.declared.commands.Kind.TheVariants as kinds
use Rattle.mm_definitions.specs.declared.commands.Command.TheVariants as commands
use Rattle.mm_definitions.proofs.Parts.{each_remove, each_retain, after_remove, after_retain, kept, beside_remove}
use Rattle.mm_definitions.proofs.Parts.{same_some}
use Rattle.mm_definitions.proofs.Parts.{absent_after_remove, no_entry, either_false, same_itself, apart}
use Rattle.mm_definitions.proofs.KeyLaws.{levels, texts, tile_keys, items, extension_keys}
use Rattle.mm_laws.proofs.Kept.{Keeps}
use Rattle.mm_laws.proofs.Reasons.{none_holds}
use Rattle.mm_laws.proofs.KindFacts.{differ}
use Rattle.mm_laws.proofs.Systems.{if_some_more}

-- a name that the test calls another is another
pub other_tells : (table name : Text) → is_other table name ≡ true → name ≢ table
other_tells table name e same = let t : same_text name table ≡ true = ap (same_text name) (sym same)
    ∙ same_itself texts name in let f : not true ≡ true = sym (ap not t) ∙ e in let g : false ≡ true = f in cc

pub other_holds : (table name : Text) → name ≢ table → is_other table name ≡ true
other_holds table name n = ap not (apart texts name table n)

module _ (p : Package) (table : Text) (unused : is_used p table ≡ false) where
  next : Package
  next = without_table p table

  -- no relation has the table as an end
  ends : (mapping : Text) (r : Relation) → Has p.relations mapping r → (r.base ≢ table) × (r.related ≢ table)
  ends mapping r e =
      let parts = either_false (same_text r.base table) (same_text r.related table)
      (no_entry texts (λ _ s. same_text s.base table || same_text s.related table) p.relations unused mapping r e) in
      (differ r.base table parts.0, differ r.related table parts.1)

  kind_still : (t : Text) (kind : Kind) → t ≢ table → HasKind p.kinds t kind → HasKind (remove p.kinds table) t kind
  kind_still t kind n e = beside_remove texts p.kinds table t n ∙ e

  kind_was : (t : Text) (kind : Kind) → HasKind (remove p.kinds table) t kind → (t ≢ table) × HasKind p.kinds t kind
  kind_was t kind e = after_remove texts p.kinds table t (kind_text kind) e

  pyramid_still : (t : Text) → t ≢ table → IsPyramid p.kinds t → IsPyramid (remove p.kinds table) t
  pyramid_still t n e = elim e as (λ _. IsPyramid (remove p.kinds table) t)
      [ inl a ↦ inl (kind_still t kinds.Two n a) | inr b ↦ inr (kind_still t kinds.Other n b) ]

  may_still : (t : Text) (s : ℤ) → MayName p.systems p.kinds t s → MayName p.systems (remove p.kinds table) t s
  may_still t s m = (
    m.0,
    λ new. m.1 (elim new as (λ _. IsPyramid p.kinds t)
        [ inl a ↦ inl (kind_was t kinds.Two a).1 | inr b ↦ inr (kind_was t kinds.Other b).1 ]),
  )

  stands_still : (t : Text) → t ≢ table → Stands p.contents t → Stands (remove p.contents table) t
  stands_still t n e = ap is_some (beside_remove texts p.contents table t n) ∙ e

  item_still : (t : Text) (id : ℤ) → t ≢ table → HasItem p.rows p.media t id
      → HasItem (retain_keys p.rows (λ k. is_other table k.table)) (retain_keys p.media (λ k. is_other table k.table)) t
      id
  item_still t id n e = elim e as
      (λ _. HasItem (retain_keys p.rows (λ k. is_other table k.table))
      (retain_keys p.media (λ k. is_other table k.table)) t id) [
        | inl a ↦ inl (ap is_some (kept items p.rows (λ k. is_other table k.table) (item t id) (other_holds table t n))
            ∙ a)
        | inr b ↦ inr (ap is_some (kept items p.media (λ k. is_other table k.table) (item t id) (other_holds table t n))
            ∙ b)
      ]

  suited_still : (mapping : Text) (r : Relation) → Has p.relations mapping r → IsSuited p.kinds r
      → IsSuited (remove p.kinds table) r
  suited_still mapping r e s = record {
    base = elim s.base as (λ _. HasKind (remove p.kinds table) r.base kinds.Attributes
        ⊎ HasKind (remove p.kinds table) r.base kinds.Media) [
          | inl a ↦ inl (kind_still r.base kinds.Attributes (ends mapping r e).0 a)
          | inr b ↦ inr (kind_still r.base kinds.Media (ends mapping r e).0 b)
        ];
    related = elim s.related as (λ _. ((r.name ≡ codes "media")
        × HasKind (remove p.kinds table) r.related kinds.Media)
        ⊎ ((r.name ≡ codes "simple_attributes") × HasKind (remove p.kinds table) r.related kinds.Attributes)) [
          | inl a ↦ inl (a.0, kind_still r.related kinds.Media (ends mapping r e).1 a.1)
          | inr b ↦ inr (b.0, kind_still r.related kinds.Attributes (ends mapping r e).1 b.1)
        ];
    base_column = s.base_column;
    related_column = s.related_column;
  }

  joins_still : (v : Option Relation) (k : Pairing) → get p.relations k.mapping ≡ v → Joins p.rows p.media v k
      → Joins next.rows next.media v k
  unfolding next
  joins_still None k e h = h
  joins_still (Some r) k e h = (
    item_still r.base k.base_id (ends k.mapping r e).0 h.0,
    item_still r.related
        k.related_id (ends k.mapping r e).1 h.1,
  )

  wanted_still : (e : Extension) → e ≢ zoom_extension table → IsWanted p.kinds p.relations e
      → IsWanted (remove p.kinds table) p.relations e
  wanted_still e n (inl a) = inl a
  wanted_still e n (inr (inl m)) = inr (inl m)
  wanted_still e n (inr (inr t)) = inr
      (inr (t.0, kind_still t.0 kinds.Other (λ same. n (t.2 ∙ ap zoom_extension same)) t.1, t.2))

  wanted_was : (e : Extension) → IsWanted (remove p.kinds table) p.relations e → (e ≢ zoom_extension table)
      × IsWanted p.kinds p.relations e
  wanted_was e (inl a) = (
    λ s. differ general_extension.name (zoom_extension table).name refl
        (ap (λ (x : Extension). x.name) (sym a ∙ s)),
    inl a,
  )
  wanted_was e (inr (inl m)) = (
    λ s. differ (mapping_extension m.0).name (zoom_extension table).name refl
        (ap (λ (x : Extension). x.name) (sym m.2 ∙ s)),
    inr (inl m),
  )
  wanted_was e (inr (inr t)) =
      let was = kind_was t.0 kinds.Other t.1 in
      (λ s. was.0 (same_some (ap (λ (x : Extension). x.table) (sym t.2 ∙ s))), inr (inr (t.0, was.1, t.2)))

  keeps_without : (profile : Profile) → Meets profile p → Meets profile (without_table p table)
  unfolding next
  keeps_without profile h = record {
    q1 = h.q1;
    q2 = record {
      of_contents = λ t c e. if_some_more c.system (MayName p.systems p.kinds t)
          (MayName p.systems (remove p.kinds table) t) (may_still t)
          (h.q2.of_contents t c (after_remove texts p.contents table t c e).1);
      of_sets = λ t s e. may_still t s.system (h.q2.of_sets t s (after_remove texts p.sets table t s e).1);
    };
    q3 = λ t c e u d f same. h.q3 t c (after_remove texts p.contents table t c e).1 u d
        (after_remove texts p.contents table u d f).1 same;
    q4 = record {
      of_tables = each_remove texts p.contents table (λ t _. IsName t) h.q4.of_tables;
      of_mappings = λ m r e. (
        (h.q4.of_mappings m r e).0,
        absent_after_remove texts p.contents table m
            (h.q4.of_mappings m r e).1,
      );
      of_editions = h.q4.of_editions;
    };
    q5 = record {
      registered = λ t c e.
          let was = after_remove texts p.contents table t c e in
          let r = h.q5.registered t c was.1 in (
            r.0,
            kind_still t r.0 was.0 r.1,
            subst (λ s. Suits r.0 c s) (sym (beside_remove texts p.sets table t was.0))
                r.2,
          );
      of_kinds = λ t k e. let was = after_remove texts p.kinds table t k e in stands_still t was.0
          (h.q5.of_kinds t k was.1);
      of_sets = λ t s e. let was = after_remove texts p.sets table t s e in stands_still t was.0
          (h.q5.of_sets t s was.1);
    };
    q6 = record {
      of_sets = each_remove texts p.sets table _ h.q6.of_sets;
      of_contents =
          each_remove texts p.contents table (λ _ c. IsOrdered c.min_x c.max_x × IsOrdered c.min_y c.max_y)
          h.q6.of_contents;
    };
    q7 = λ k g e.
        let was = after_retain levels p.matrices (λ k. is_other table k.table) k g e in
        let n = other_tells table k.table was.0 in
        let old = h.q7 k g was.1 in (
          pyramid_still k.table n old.0,
          subst (λ s. FitsIn s g) (sym (beside_remove texts p.sets table k.table n))
              old.1,
        );
    q8 = λ t low high a b e f up. h.q8 t low high a b
        (after_retain levels p.matrices (λ k. is_other table k.table) (level t low) a e).1
        (after_retain levels p.matrices (λ k. is_other table k.table) (level t high) b f).1 up;
    q9 = λ t zoom a b two e f. h.q9 t zoom a b (kind_was t kinds.Two two).1
        (after_retain levels p.matrices (λ k. is_other table k.table) (level t zoom) a e).1
        (after_retain levels p.matrices (λ k. is_other table k.table) (level t (zoom +ℤ pos 1)) b f).1;
    q10 = λ k bytes e.
        let was = after_retain tile_keys p.tiles (λ k. is_other table k.table) k bytes e in
        subst (λ v. IsInside v k.column k.row)
        (sym (kept levels p.matrices (λ k. is_other table k.table) (level k.table k.zoom) was.0)) (h.q10 k bytes was.1);
    q11 = record {
      of_rows = λ k x e. let was = after_retain items p.rows (λ k. is_other table k.table) k x e in kind_still k.table
          kinds.Attributes (other_tells table k.table was.0) (h.q11.of_rows k x was.1);
      of_media = λ k x e. let was = after_retain items p.media (λ k. is_other table k.table) k x e in kind_still k.table
          kinds.Media (other_tells table k.table was.0) (h.q11.of_media k x was.1);
    };
    q12 = λ m r e. suited_still m r e (h.q12 m r e);
    q13 = λ k u e. joins_still (get p.relations k.mapping) k refl (h.q13 k u e);
    q14 = record {
      only = λ e n f. let was = after_remove extension_keys p.extensions (zoom_extension table) e n f in
          (wanted_still e was.0 (h.q14.only e n was.1).0, (h.q14.only e n was.1).1);
      all = λ e w. let was = wanted_was e w in beside_remove extension_keys p.extensions (zoom_extension table) e was.0
          ∙ h.q14.all e was.1;
    };
    q15 = h.q15;
    q16 = record {
      systems = h.q16.systems;
      contents = each_remove texts p.contents table (ContentsWithin profile) h.q16.contents;
      kinds = each_remove texts p.kinds table KindWithin h.q16.kinds;
      sets = each_remove texts p.sets table (SetWithin profile) h.q16.sets;
      matrices = each_retain levels p.matrices (λ k. is_other table k.table) (MatrixWithin profile) h.q16.matrices;
      extensions = each_remove extension_keys p.extensions (zoom_extension table) ExtensionWithin h.q16.extensions;
      tiles = each_retain tile_keys p.tiles (λ k. is_other table k.table) TileWithin h.q16.tiles;
      rows = each_retain items p.rows (λ k. is_other table k.table) RowWithin h.q16.rows;
      media = each_retain items p.media (λ k. is_other table k.table) MediumWithin h.q16.media;
      relations = h.q16.relations;
      pairings = h.q16.pairings;
      editions = h.q16.editions;
      pieces = h.q16.pieces;
    };
  }

pub drop : (table : Text) → Keeps (commands.Drop table)
drop table profile p moment stamp h within low is none =
    let r = none_holds (own_reasons p (commands.Drop table)) none in
    keeps_without p table r.1.0 profile h
