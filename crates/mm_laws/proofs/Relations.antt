-- Relations and editions that are put or removed keep the rules.
use Rattle.std.proofs.Common.{◌≡◌, ◌≢◌, ℕ, ◌≤◌, ℤ, Bool, true, false, not, ◌&&◌, ◌||◌, Option, Some}
use Rattle.std.proofs.Common.{None, codes, refl, sym, ap, subst, ◌∙◌, ◌⊎◌, inl, inr, is_some, zero-le}
use Rattle.std.specs.FinMap.{get, contains_key, insert, remove, retain_keys}
use Rattle.std.proofs.lemmas.Bool.{and_from, not-false, and_parts}
use Rattle.mm_definitions.specs.Keys.{Text, Pairing, PieceKey, piece, Extension}
use Rattle.mm_definitions.specs.Parts.{Each, Has, Stands}
use Rattle.mm_definitions.specs.Package.{Package, Kinds, RelationsPart, HasKind, has_kind, Relation}
use Rattle.mm_definitions.specs.Package.{general_extension, mapping_extension, zoom_extension, open_state}
use Rattle.mm_definitions.specs.Package.{published_state}
use Rattle.mm_definitions.specs.Bounds.{IsName, IsClean, MostPieces}
use Rattle.mm_definitions.specs.Rules.{IsSuited, Joins, IsWanted, IsNumbered, ExtensionWithin, RelationWithin}
use Rattle.mm_definitions.specs.Rules.{PairingWithin, EditionWithin, PieceWithin}
use Rattle.mm_definitions.specs.Conditions.{own_reasons, is_plain, relation_text, related_kind}
use Rattle.mm_definitions.specs.Effects.{is_other}
use Rattle.mm_definitions.specs.declared.commands.Kind.TheVariants as kinds
use Rattle.mm_definitions.specs.declared.commands.RelationName.{RelationName}
use Rattle.mm_definitions.specs.declared.commands.RelationName.TheVariants as names
use Rattle.mm_definitions.specs.declared.commands.Command.TheVariants as commands
use Rattle.mm_definitions.proofs.Parts.{each_put, each_remove, each_retain, stands_after_put, after_put, after_remove}
use Rattle.mm_definitions.proofs.Parts.{same_some}
use Rattle.mm_definitions.proofs.Parts.{after_retain, kept, kept_by_new, at_put, beside_remove, either_false}
use Rattle.mm_definitions.proofs.Parts.{not_none, none_of, some_of}
use Rattle.mm_definitions.proofs.CleanTexts.{ascii_is_clean, name_is_clean}
use Rattle.mm_definitions.proofs.KeyLaws.{texts, pairing_keys, piece_keys, extension_keys}
use Rattle.mm_laws.proofs.Kept.{Keeps}
use Rattle.mm_laws.proofs.Reasons.{none_holds, stands_where}
use Rattle.mm_laws.proofs.KindFacts.{differ, either_true, has_kind_tells}
use Rattle.mm_laws.proofs.Tables.{put_once}
use Rattle.mm_laws.proofs.OnePart.{with_editions, with_relations}
use Rattle.mm_laws.proofs.Counted.{no_number}
use Rattle.mm_laws.proofs.Dropped.{other_tells, other_holds}

same_mapping : (a b : Text) → mapping_extension a ≡ mapping_extension b → a ≡ b
same_mapping a b e = same_some (ap (λ (x : Extension). x.table) e)

pub own_name : IsName (codes "gpkgext_relations") → ⊥
own_name n = let f : false ≡ true = n.own in cc

not_general : (mapping : Text) → IsName mapping → general_extension ≡ mapping_extension mapping → ⊥
not_general mapping named e = own_name (subst IsName (sym (same_some (ap (λ (x : Extension). x.table) e))) named)

relation_is_clean : (name : RelationName) → IsClean (relation_text name)
relation_is_clean names.Media = ascii_is_clean (relation_text names.Media) refl refl
relation_is_clean names.SimpleAttributes = ascii_is_clean (relation_text names.SimpleAttributes) refl refl

-- ---- a relation
suited_new : (kinds_of : Kinds) (base related : Text) (name : RelationName)
    → has_kind kinds_of base kinds.Attributes || has_kind kinds_of base kinds.Media ≡ true
    → has_kind kinds_of related (related_kind name) ≡ true
    → IsSuited kinds_of (record { base = base; related = related; base_column = codes "id"; related_column = codes "id"; name = relation_text name })
suited_new kinds_of base related name e f = record {
  base = elim (either_true (has_kind kinds_of base kinds.Attributes) (has_kind kinds_of base kinds.Media) e) as (λ _.
      HasKind kinds_of base kinds.Attributes ⊎ HasKind kinds_of base kinds.Media) [
        | inl a ↦ inl (has_kind_tells kinds_of base kinds.Attributes a)
        | inr b ↦ inr (has_kind_tells kinds_of base kinds.Media b)
      ];
  related = named name f;
  base_column = refl;
  related_column = refl;
} where
  named : (n : RelationName) → has_kind kinds_of related (related_kind n) ≡ true
      → ((relation_text n ≡ codes "media") × HasKind kinds_of related kinds.Media)
      ⊎ ((relation_text n ≡ codes "simple_attributes") × HasKind kinds_of related kinds.Attributes)
  named names.Media e = inl (refl, has_kind_tells kinds_of related kinds.Media e)
  named names.SimpleAttributes e = inr (refl, has_kind_tells kinds_of related kinds.Attributes e)

pub relation_put : (mapping base related : Text) (name : RelationName)
    → Keeps (commands.Relation mapping base related name)
relation_put mapping base related name profile p moment stamp h within low is none =
    let r = none_holds (own_reasons p (commands.Relation mapping base related name)) none in
    let ends = either_false (not (contains_key p.contents base)) (not (contains_key p.contents related)) r.0 in
    let base_there = not-false (contains_key p.contents base) ends.0 in
    let related_there = not-false (contains_key p.contents related) ends.1 in
    let free = either_false (contains_key p.contents mapping) (contains_key p.relations mapping) r.1.0 in
    let kinds_suit = and_parts (is_plain p base) (has_kind p.kinds related (related_kind name))
    (stands_where (contains_key p.contents base && contains_key p.contents related)
    (is_plain p base && has_kind p.kinds related (related_kind name)) r.1.1.0
    (and_from (contains_key p.contents base) (contains_key p.contents related) base_there related_there)) in
    let relation : Relation = record {
      base = base;
      related = related;
      base_column = codes "id";
      related_column = codes "id";
      name = relation_text name;
    } in
    let next = insert p.relations mapping relation in
    let still = kept_by_new texts p.relations mapping relation free.1 in
    with_relations profile p h _ _ _
    (each_put texts p.relations mapping relation (λ m _. IsName m × (get p.contents m ≡ None)) h.q4.of_mappings
    (within.0, none_of (get p.contents mapping) free.0))
    (each_put texts p.relations mapping relation (λ _ s. IsSuited p.kinds s) h.q12
    (suited_new p.kinds base related name kinds_suit.0 kinds_suit.1))
    (λ k u e. joins_still p next still (get p.relations k.mapping) k refl (h.q13 k u e))
    (record {
      only = each_put extension_keys p.extensions (mapping_extension mapping) 1
          (λ e count. IsWanted p.kinds next e × (count ≡ 1))
          (λ e count f. (
            wanted_stays p next (stands_after_put texts p.relations mapping relation) e
                (h.q14.only e count f).0,
            (h.q14.only e count f).1,
          ))
          (inr (inl (mapping, ap is_some (at_put texts p.relations mapping relation), refl)), refl);
      all = λ e w. put_once p.extensions (mapping_extension mapping) e
          (elim (wanted_was p mapping relation e w) as (λ _. (e ≡ mapping_extension mapping) ⊎ Has p.extensions e 1)
          [ inl s ↦ inl s | inr b ↦ inr (h.q14.all e b) ]);
    })
    (each_put extension_keys p.extensions (mapping_extension mapping) 1 ExtensionWithin h.q16.extensions (record {
      table = name_is_clean mapping within.0;
      column = tt;
      name = ascii_is_clean (mapping_extension mapping).name refl refl;
      definition = ascii_is_clean (mapping_extension mapping).definition refl refl;
      scope = ascii_is_clean (mapping_extension mapping).scope refl refl;
    }))
    (each_put texts p.relations mapping relation RelationWithin h.q16.relations
    (record {
      mapping = within.0;
      base = within.1;
      related = within.2;
      base_column = ascii_is_clean (codes "id") refl refl;
      related_column = ascii_is_clean (codes "id") refl refl;
      name = relation_is_clean name;
    }))
    h.q16.pairings
  where
    joins_still : (p : Package) (next : RelationsPart)
        → ((m : Text) (s : Relation) → Has p.relations m s → Has next m s)
        → (v : Option Relation) (k : Pairing) → get p.relations k.mapping ≡ v → Joins p.rows p.media v k
        → Joins p.rows p.media (get next k.mapping) k
    joins_still p next still None k e j = absurd j
    joins_still p next still (Some s) k e j = subst (λ v. Joins p.rows p.media v k) (sym (still k.mapping s e)) j

    wanted_stays : (p : Package) (next : RelationsPart) → ((m : Text) → Stands p.relations m → Stands next m)
        → (e : Extension)
        → IsWanted p.kinds p.relations e → IsWanted p.kinds next e
    wanted_stays p next more e (inl a) = inl a
    wanted_stays p next more e (inr (inl m)) = inr (inl (m.0, more m.0 m.1, m.2))
    wanted_stays p next more e (inr (inr t)) = inr (inr t)

    wanted_was : (p : Package) (mapping : Text) (relation : Relation) (e : Extension)
        → IsWanted p.kinds (insert p.relations mapping relation) e
        → (e ≡ mapping_extension mapping) ⊎ IsWanted p.kinds p.relations e
    wanted_was p mapping relation e (inl a) = inr (inl a)
    wanted_was p mapping relation e (inr (inl m)) =
        let s = some_of (get (insert p.relations mapping relation) m.0) m.1 in
        elim (after_put texts p.relations mapping relation m.0 s.0 s.1) as
        (λ _. (e ≡ mapping_extension mapping) ⊎ IsWanted p.kinds p.relations e) [
          | inl x ↦ inl (m.2 ∙ ap mapping_extension x.0)
          | inr x ↦ inr (inr (inl (m.0, ap is_some x.1, m.2)))
        ]
    wanted_was p mapping relation e (inr (inr t)) = inr (inr (inr t))

pub relation_drop : (mapping : Text) → Keeps (commands.RelationDrop mapping)
relation_drop mapping profile p moment stamp h within low is none =
    let next = remove p.relations mapping in
    let test : Pairing → Bool = λ k. is_other mapping k.mapping in
    with_relations profile p h _ _ _
    (each_remove texts p.relations mapping (λ m _. IsName m × (get p.contents m ≡ None)) h.q4.of_mappings)
    (each_remove texts p.relations mapping (λ _ s. IsSuited p.kinds s) h.q12)
    (λ k u e.
    let was = after_retain pairing_keys p.pairings test k u e in
    subst (λ v. Joins p.rows p.media v k) (sym
    (beside_remove texts p.relations mapping k.mapping (other_tells mapping k.mapping was.0))) (h.q13 k u was.1))
    (record {
      only = λ e n f. let was = after_remove extension_keys p.extensions
          (mapping_extension mapping) e n f in (
            wanted_still p mapping e was.0 (h.q14.only e n was.1).0,
            (h.q14.only e n was.1).1,
          );
      all = λ e w. let was = wanted_was p mapping within e w in beside_remove extension_keys p.extensions
          (mapping_extension mapping) e was.0 ∙ h.q14.all e was.1;
    })
    (each_remove extension_keys p.extensions (mapping_extension mapping) ExtensionWithin h.q16.extensions)
    (each_remove texts p.relations mapping RelationWithin h.q16.relations)
    (each_retain pairing_keys p.pairings test PairingWithin h.q16.pairings)
  where
    wanted_still : (p : Package) (mapping : Text) (e : Extension) → e ≢ mapping_extension mapping
        → IsWanted p.kinds p.relations e
        → IsWanted p.kinds (remove p.relations mapping) e
    wanted_still p mapping e n (inl a) = inl a
    wanted_still p mapping e n (inr (inl m)) = inr
        (inl (
          m.0,
          ap is_some (beside_remove texts p.relations mapping m.0 (λ s. n (m.2 ∙ ap mapping_extension s)))
              ∙ m.1,
          m.2,
        ))
    wanted_still p mapping e n (inr (inr t)) = inr (inr t)

    wanted_was : (p : Package) (mapping : Text) → IsName mapping → (e : Extension)
        → IsWanted p.kinds (remove p.relations mapping) e
        → (e ≢ mapping_extension mapping) × IsWanted p.kinds p.relations e
    wanted_was p mapping named e (inl a) = (λ s. not_general mapping named (sym a ∙ s), inl a)
    wanted_was p mapping named e (inr (inl m)) =
        let s = some_of (get (remove p.relations mapping) m.0) m.1 in
        let was = after_remove texts p.relations mapping m.0 s.0 s.1 in
        (λ same. was.0 (same_mapping m.0 mapping (sym m.2 ∙ same)), inr (inl (m.0, ap is_some was.1, m.2)))
    wanted_was p mapping named e (inr (inr t)) = (
      λ s. differ (zoom_extension t.0).name
          (mapping_extension mapping).name refl (ap (λ (x : Extension). x.name) (sym t.2 ∙ s)),
      inr (inr t),
    )

-- ---- editions
pub edition_put : (name : Text) → Keeps (commands.Edition name)
edition_put name profile p moment stamp h within low is none =
    let r = none_holds (own_reasons p (commands.Edition name)) none in
    let free = none_of (get p.editions name) r.0 in
    with_editions profile p h _ _
    (each_put texts p.editions name open_state (λ e _. IsName e) h.q4.of_editions within)
    (record {
      states = each_put texts p.editions name open_state (λ _ s. (s ≡ open_state) ⊎ (s ≡ published_state)) h.q15.states
          (inl refl);
      numbered = λ e f. elim (after_put texts p.editions name open_state e open_state f) as (λ _. (n : ℕ)
          × (n ≤ MostPieces) × IsNumbered p.pieces e n) [
            | inl s ↦ (
              0,
              zero-le,
              λ number. (
                λ there. absurd
                    (no_pieces p name free h.q15.of_open number
                    (subst (λ t. Stands p.pieces (piece t number)) s.0 there)),
                λ range. absurd (no_number number range.0 range.1),
              ),
            )
            | inr n ↦ h.q15.numbered e n.1
          ];
      of_open = λ k r e. kept_by_new texts p.editions name open_state (missing p name free) k.edition open_state
          (h.q15.of_open k r e);
      spelled = h.q15.spelled;
    })
    (each_put texts p.editions name open_state EditionWithin h.q16.editions
    (within, ascii_is_clean open_state refl refl))
    h.q16.pieces
  where
    missing : (p : Package) (name : Text) → get p.editions name ≡ None → contains_key p.editions name ≡ false
    missing p name e = ap is_some e

    no_pieces : (p : Package) (name : Text) → get p.editions name ≡ None
        → Each p.pieces (λ k _. Has p.editions k.edition open_state) → (number : ℤ)
        → Stands p.pieces (piece name number) → ⊥
    no_pieces p name free opened number there = let r = some_of (get p.pieces (piece name number)) there in not_none
        (opened (piece name number) r.0 r.1) free

-- another edition's pieces are numbered as before
pub numbered_still : (p : Package) (name edition : Text) (n : ℕ) → edition ≢ name → IsNumbered p.pieces edition n
    → IsNumbered (retain_keys p.pieces (λ k. is_other name k.edition)) edition n
numbered_still p name edition n other h number =
    let same = kept piece_keys p.pieces (λ k. is_other name k.edition) (piece edition number)
    (other_holds name edition other) in
    (λ there. (h number).0 (sym (ap is_some same) ∙ there), λ range. ap is_some same ∙ (h number).1 range)

-- ---- an edition's pieces go, and its state becomes another or none
pub discard : (name : Text) → Keeps (commands.Discard name)
discard name profile p moment stamp h within low is none =
    let test : PieceKey → Bool = λ k. is_other name k.edition in
    with_editions profile p h _ _
    (each_remove texts p.editions name (λ e _. IsName e) h.q4.of_editions)
    (record {
      states = each_remove texts p.editions name (λ _ s. (s ≡ open_state) ⊎ (s ≡ published_state)) h.q15.states;
      numbered = λ e f. let was = after_remove texts p.editions name e open_state f in let n =
          h.q15.numbered e was.1 in (n.0, n.1, numbered_still p name e n.0 was.0 n.2);
      of_open = λ k r e. let was = after_retain piece_keys p.pieces test k r e in beside_remove texts p.editions name
          k.edition (other_tells name k.edition was.0) ∙ h.q15.of_open k r was.1;
      spelled = each_retain piece_keys p.pieces test _ h.q15.spelled;
    })
    (each_remove texts p.editions name EditionWithin h.q16.editions)
    (each_retain piece_keys p.pieces test PieceWithin h.q16.pieces)
