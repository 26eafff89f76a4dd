-- The matches of the query, each of a mapping row.
use Rattle.std.proofs.Common.{◌≡◌, inl, inr, ℤ, Bool, true, false, cond, ◌&&◌, List, [], ◌∷◌, Some, refl, sym, ap}
use Rattle.std.proofs.Common.{subst, ◌∙◌}
use Rattle.std.specs.declared.cmp.Ordering.TheVariants.{Equal}
use Rattle.std.specs.Ordering.{is_eq, ordering_then, int_cmp}
use Rattle.std.specs.Cmp.{tied_itself, Equal-is}
use Rattle.std.specs.List.{flat_map, list_all, IsDistinct}
use Rattle.std.specs.FinMap.{get, retain_keys}
use Rattle.std.proofs.lemmas.Bool.{and_parts, and_from, false_from_ne_true}
use Rattle.sqlite.specs.declared.types.Value.TheVariants.{Int, Text as Words}
use Rattle.sql_forms.specs.Order.{value_cmp}
use Rattle.sql_forms.proofs.OrderLemmas.{value_cmp-Int, value_cmp-Text, then-Equal}
use Rattle.sqlite.specs.Order.{Row, column}
use Rattle.sqlite.specs.Term.{Env, holds}
use Rattle.sqlite.specs.Query.{Output, output, output_cmp}
use Rattle.sqlite.specs.Tree.{IsTable}
use Rattle.sql_forms.specs.Lists.{Has}
use Rattle.sql_forms.specs.Maps.{Holds}
use Rattle.sql_forms.proofs.Keys.{columns_are}
use Rattle.sql_forms.proofs.Lists.{has_flat, flat_has}
use Rattle.mm_definitions.specs.Keys.{Text, text_cmp, same_text, same_number, Pairing, pairing_cmp}
use Rattle.mm_definitions.specs.Parts.{at_value}
use Rattle.mm_definitions.specs.Package.{Package, Relation}
use Rattle.mm_definitions.proofs.Parts.{kept}
use Rattle.mm_definitions.proofs.KeyLaws.{texts, numbers, pairing_keys}
use Rattle.mm_laws.proofs.KindFacts.{are_same}
use Rattle.mm_store.specs.Rows.{past_rowid, past_id, relation_row, pairing_row}
use Rattle.mm_store.proofs.Keys.{columns_after}
use Rattle.mm_layout.proofs.Joined.{base_tells}
use Rattle.mm_reads.specs.Related.{is_from}
use Rattle.mm_reads.proofs.Asked.{terms, asked}
use Rattle.mm_reads.proofs.Distinct.{distinct_flat, has_same_id, never_same, distinct_rows}

-- the two rows are of a mapping row of the item
pub record IsMatch (p : Package) (table : Text) (id : ℤ) (r m : Row) : Type 0 where
  pub key : Pairing
  pub relation : Relation
  pub of_relation : past_id r ≡ relation_row key.mapping relation
  pub of_pairing : past_rowid m ≡ pairing_row key tt
  pub related : get p.relations key.mapping ≡ Some relation
  pub paired : get p.pairings key ≡ Some tt
  pub based : key.base_id ≡ id
  pub from : is_from p table id key ≡ true

-- the output is of a mapping row of the item
pub record IsMate (p : Package) (table : Text) (id : ℤ) (o : Output) : Type 0 where
  pub key : Pairing
  pub relation : Relation
  pub stands : get (retain_keys p.pairings (is_from p table id)) key ≡ Some tt
  pub related : get p.relations key.mapping ≡ Some relation
  pub based : key.base_id ≡ id
  pub keys : o.0 ≡ Words key.mapping ∷ Int key.related_id ∷ []
  pub shows : o.1 ≡ Words key.mapping ∷ Words relation.name ∷ Words relation.related ∷ Int key.related_id ∷ []

abbrev pub out : Env → Output
out = output asked

abbrev pub ties : Output → Output → Bool
ties a b = is_eq (output_cmp asked a b)

module _ (p : Package) (table : Text) (id : ℤ) where
  abbrev pub env : Row → Row → Env
  env r m = (Words table ∷ Int id ∷ []) ∷ r ∷ m ∷ []

  abbrev pub passing : Row → Row → Bool
  passing r m = list_all (holds (env r m)) terms

  pub mate_of : (r m : Row) → IsMatch p table id r m → IsMate p table id (out (env r m))
  mate_of r m it =
      let mapping = columns_after r (relation_row it.key.mapping it.relation) 5 it.of_relation in
      let name = columns_after r (relation_row it.key.mapping it.relation) 4 it.of_relation in
      let related = columns_after r (relation_row it.key.mapping it.relation) 2 it.of_relation in
      let number = columns_are m (pairing_row it.key tt) 2 it.of_pairing in
      record {
        key = it.key;
        relation = it.relation;
        stands = kept pairing_keys p.pairings (is_from p table id) it.key it.from ∙ it.paired;
        related = it.related;
        based = it.based;
        keys = λ i. mapping i ∷ number i ∷ [];
        shows = λ i. mapping i ∷ name i ∷ related i ∷ number i ∷ [];
      }

  pub mate_key : (r m : Row) (it : IsMatch p table id r m) → (mate_of r m it).key ≡ it.key
  unfolding mate_of
  mate_key r m it = refl

  -- the order of the outputs is that of the mapping rows
  pub cmp_is : (o u : Output) (a : IsMate p table id o) (b : IsMate p table id u)
      → output_cmp asked o u ≡ pairing_cmp a.key b.key
  cmp_is o u a b =
      let tied : int_cmp a.key.base_id b.key.base_id ≡ Equal = (λ i. int_cmp (a.based i) (b.based i))
      ∙ tied_itself numbers.total id in
      (λ i. ordering_then (value_cmp (column (a.keys i) 0) (column (b.keys i) 0))
      (ordering_then (value_cmp (column (a.keys i) 1) (column (b.keys i) 1)) Equal))
      ∙ (λ i. ordering_then (value_cmp-Text a.key.mapping b.key.mapping i)
      (ordering_then (value_cmp-Int a.key.related_id b.key.related_id i) Equal))
      ∙ ap (ordering_then (text_cmp a.key.mapping b.key.mapping))
      (then-Equal (int_cmp a.key.related_id b.key.related_id)
      ∙ sym (ap (λ s. ordering_then s (int_cmp a.key.related_id b.key.related_id)) tied))

  pub one_key : (o u : Output) (a : IsMate p table id o) (b : IsMate p table id u) → ties o u ≡ true → a.key ≡ b.key
  one_key o u a b tie = pairing_keys.exact a.key b.key (sym (cmp_is o u a b) ∙ (Equal-is _).0 tie)

  module _ (rels maps : List Row) (hr : Holds past_id relation_row rels p.relations)
      (hm : Holds past_rowid pairing_row maps p.pairings) where
    pub match_of : (r m : Row) → Has rels r → Has maps m → passing r m ≡ true → IsMatch p table id r m
    match_of r m in_rels in_maps hit =
        let a = hr.sound r in_rels in
        let b = hm.sound m in_maps in
        let all = sym (base_tells table id r m a.0 a.1 b.0 a.3 b.3) ∙ hit in
        let x = and_parts (same_text b.0.mapping a.0) (same_number b.0.base_id id && (same_text a.1.base table && true))
        all in
        let y = and_parts (same_number b.0.base_id id) (same_text a.1.base table && true) x.1 in
        let z = and_parts (same_text a.1.base table) true y.1 in
        let same = are_same texts b.0.mapping a.0 x.0 in
        let related = ap (get p.relations) same ∙ a.2 in
        record {
          key = b.0;
          relation = a.1;
          of_relation = a.3 ∙ ap (λ n. relation_row n a.1) (sym same);
          of_pairing = b.3;
          related = related;
          paired = b.2;
          based = are_same numbers b.0.base_id id y.0;
          from = ap (at_value (λ (v : Relation). same_text v.base table && same_number b.0.base_id id)) related
              ∙ and_from (same_text a.1.base table) (same_number b.0.base_id id) z.0 y.0;
        }

    -- two matches that tie are of the same rows
    alone : (r s m n : Row) → Has rels r → Has rels s → Has maps m → Has maps n → IsMatch p table id r m
        → IsMatch p table id s n
        → ties (out (env r m)) (out (env s n)) ≡ true → (r ≡ s) × (m ≡ n)
    unfolding mate_of
    alone r s m n in_r in_s in_m in_n a b tie =
        let same = one_key _ _ (mate_of r m a) (mate_of s n b) tie in (
          hr.apart r s in_r in_s a.key.mapping a.relation b.relation a.of_relation
              (subst (λ (k : Pairing). past_id s ≡ relation_row k.mapping b.relation) (sym same) b.of_relation),
          hm.apart m n in_m in_n a.key tt tt a.of_pairing
              (subst (λ (k : Pairing). past_rowid n ≡ pairing_row k tt) (sym same) b.of_pairing),
        )

    -- ---- the matches, row by row

    abbrev pub beside : Row → List Env
    beside r = flat_map (λ (m : Row). cond (passing r m) (env r m ∷ []) []) maps

    there : (b : Bool) (e x : Env) → Has (cond b (e ∷ []) []) x → (b ≡ true) × (x ≡ e)
    there true e x (inl same) = (refl, same)
    there true e x (inr none) = absurd none
    there false e x none = absurd none

    pub beside_has : (r : Row) (x : Env) → Has (beside r) x → (m : Row) × Has maps m × (passing r m ≡ true)
        × (x ≡ env r m)
    beside_has r x h =
        let m = has_flat (λ (m : Row). cond (passing r m) (env r m ∷ []) []) maps x h in
        let t = there (passing r m.0) (env r m.0) x m.2 in
        (m.0, m.1, t.0, t.1)

    pub has_beside : (r m : Row) → Has maps m → passing r m ≡ true → Has (beside r) (env r m)
    has_beside r m in_maps hit = flat_has (λ (m : Row). cond (passing r m) (env r m ∷ []) []) maps m (env r m) in_maps
        (shown (passing r m) hit)
      where
        shown : (b : Bool) → b ≡ true → Has (cond b (env r m ∷ []) []) (env r m)
        shown true e = inl refl
        shown false e = absurd (let f : false ≡ true = e in cc)

    module _ (up_rels : IsTable rels) (up_maps : IsTable maps) where
      abbrev tied : Env → Env → Bool
      tied a b = ties (out a) (out b)

      once : (b : Bool) (e : Env) → IsDistinct tied (cond b (e ∷ []) [])
      unfolding IsDistinct
      once true e = (tt, tt)
      once false e = tt

      -- no two matches tie
      pub all_apart : IsDistinct tied (flat_map beside rels)
      all_apart =
          distinct_flat has_same_id tied beside rels (distinct_rows rels up_rels)
          (λ r in_r. distinct_flat has_same_id tied (λ (m : Row). cond (passing r m) (env r m ∷ []) []) maps
          (distinct_rows maps up_maps) (λ m in_m. once (passing r m) (env r m))
          (λ m n in_m in_n off a b one two.
          let x = there (passing r m) (env r m) a one in
          let y = there (passing r n) (env r n) b two in
          false_from_ne_true _ (λ tie.
          never_same m n off (alone r r m n in_r in_r in_m in_n (match_of r m in_r in_m x.0)
          (match_of r n in_r in_n y.0) (sym (λ i. tied (x.1 i) (y.1 i)) ∙ tie)).1)))
          (λ r s in_r in_s off a b one two.
          let x = beside_has r a one in
          let y = beside_has s b two in
          false_from_ne_true _ (λ tie.
          never_same r s off (alone r s x.0 y.0 in_r in_s x.1 y.1 (match_of r x.0 in_r x.1 x.2)
          (match_of s y.0 in_s y.1 y.2) (sym (λ i. tied (x.3 i) (y.3 i)) ∙ tie)).0))
