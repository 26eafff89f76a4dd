-- Whether a mapping row has an item as an end, from the rows that two tables join.
use Rattle.std.proofs.Common.{◌≡◌, ℕ, ℤ, Bool, true, false, pos, ◌&&◌, ◌||◌, List, [], ◌∷◌, map, Option, Some, None}
use Rattle.std.proofs.Common.{is_some, slice_get, if◌then◌else◌, inl, inr, refl, sym, ap, subst, ◌∙◌}
use Rattle.std.specs.Prelude.{⊤}
use Rattle.std.specs.List.{list_any, list_all}
use Rattle.std.specs.FinMap.{get, entries}
use Rattle.std.proofs.lemmas.Bool.{and_parts, and_from, both_ways, false_from_ne_true, true_from_ne_false}
use Rattle.sqlite.specs.declared.types.Value.TheVariants.{Null, Int}
use Rattle.sqlite.specs.Order.{Row}
use Rattle.sqlite.specs.Term.{Term, Env, lit, holds}
use Rattle.sqlite.specs.Query.{Query, Output, end, inner, matches, IsAnswer}
use Rattle.sqlite.specs.Program.{overlay}
use Rattle.sqlite.specs.Schema.{Schema}
use Rattle.sqlite.specs.Tree.{Trees}
use Rattle.sqlite.specs.Effect.{Answers}
use Rattle.sqlite.specs.State.{State, Shown, IsUnchanged}
use Rattle.sql_forms.specs.Lists.{Has}
use Rattle.sql_forms.specs.Forms.{query, alone, no_limit}
use Rattle.sql_forms.specs.Tables.{is_table, tables_of, IsFirstShown}
use Rattle.sql_forms.specs.Maps.{Holds}
use Rattle.sql_forms.proofs.Joins as joins
use Rattle.sql_forms.proofs.Lists.{has_flat, flat_has, either_any}
use Rattle.sql_forms.proofs.Queries.{no_overlay}
use Rattle.sql_forms.proofs.Selects.{IsSelect, first_taken}
use Rattle.sql_forms.proofs.States.{shows_as}
use Rattle.sql_forms.proofs.Tables.{rows_at}
use Rattle.mm_definitions.specs.Keys.{Text, same_text, same_number, Pairing}
use Rattle.mm_definitions.specs.Parts.{at_value, some_entry}
use Rattle.mm_definitions.specs.Package.{Package, Relation}
use Rattle.mm_definitions.specs.Conditions.{is_mapped}
use Rattle.mm_definitions.proofs.Parts.{same_key, same_itself, no_entry}
use Rattle.mm_definitions.proofs.KeyLaws.{texts, pairing_keys}
use Rattle.mm_definitions.proofs.Listed.{along_entries, none_along}
use Rattle.mm_store.specs.Rows.{past_rowid, past_id, relation_row, pairing_row}
use Rattle.mm_blobs.proofs.Sweeping.{there_if}

-- ---- a join of two tables

-- the rows of a pair that passes
abbrev pub Pair : (Row → Row → Bool) → List Row → List Row → Type 0
Pair test rows others = (r : Row) × (s : Row) × Has rows r × Has others s × (test r s ≡ true)

-- whether the join shows a row is whether a pair passes
abbrev pub JoinFinds : (Row → Row → Bool) → List Row → List Row → Option Row → Type 0
JoinFinds test rows others None = (r s : Row) → Has rows r → Has others s → test r s ≡ false
JoinFinds test rows others (Some x) = Pair test rows others

if_there : (b : Bool) (e x : Env) → Has (if b then e ∷ [] else []) x → b ≡ true
if_there true e x h = refl
if_there false e x h = absurd h

module _ (schema : Schema) (sql : List ℕ) (s t : ℕ) (terms project : List Term) (names : List (List ℕ))
    (it : IsSelect schema sql s (query (inner s (inner t end)) terms project [] (lit (Int (pos 1)))) names)
    (other : is_table schema t ≡ true)
    (old new : State) (has : old.now.schema ≡ schema) (params given : Row) (same : given ≡ params) where
  abbrev q : Query
  q = query (inner s (inner t end)) terms project [] no_limit

  abbrev db : Trees
  db = overlay old.now.trees []

  abbrev passing : Row → Row → Bool
  passing r m = list_all (holds (params ∷ r ∷ m ∷ [])) terms

  at : (n : ℕ) → is_table schema n ≡ true → db n ≡ tables_of schema old.now.trees n
  at n listed = no_overlay old.now.trees n ∙ sym (rows_at schema n old.now.trees listed)

  first_rows : List Row
  first_rows = tables_of schema old.now.trees s

  shown_pair : (rows : List Row) → IsAnswer q db params rows → JoinFinds passing (db s) (db t) (slice_get rows 0)
  shown_pair [] a = λ r m hr hm. false_from_ne_true _ (λ hit.
      joins.shows (inner s (inner t end)) terms project [] db params [] a (params ∷ r ∷ m ∷ [])
      (flat_has (λ (x : Row). matches db terms (inner t end) (params ∷ x ∷ [])) (db s) r _ hr
      (flat_has (λ (y : Row). matches db terms end (params ∷ r ∷ y ∷ [])) (db t) m _ hm
      (there_if (passing r m) (params ∷ r ∷ m ∷ []) hit))))
  shown_pair (x ∷ more) a =
      let shown = joins.shown_at (inner s (inner t end)) terms project [] db params (x ∷ more) a [] more x refl in
      let r = has_flat (λ (x : Row). matches db terms (inner t end) (params ∷ x ∷ [])) (db s) shown.0 shown.1 in
      let m = has_flat (λ (y : Row). matches db terms end (params ∷ r.0 ∷ y ∷ [])) (db t) shown.0 r.2 in
      (r.0, m.0, r.1, m.1, if_there (passing r.0 m.0) (params ∷ r.0 ∷ m.0 ∷ []) shown.0 m.2)

  module _ (first : Option Row) (shown : IsFirstShown sql given old new first) where
    read : Answers old.now (alone (query (inner s (inner t end)) terms project [] (lit (Int (pos 1))))) params shown.0
        × IsUnchanged old new
    read = shows_as old new sql params schema has _ it.compiled it.plain it.unlisted shown.0
        (subst (λ p. Shown sql p old new shown.0) same shown.1)

    pub selects_pair : IsUnchanged old new
        × JoinFinds passing (tables_of schema old.now.trees s) (tables_of schema old.now.trees t) first
    selects_pair =
        let one = read.0.answer Null in
        let all : List Row = map (λ (o : Output). o.1) one.ordered in
        let whole : IsAnswer q db params all =
        record {
          staged = one.staged;
          grouped = one.grouped;
          kept = one.kept;
          distinct = one.distinct;
          ordered = one.ordered;
          same = one.same;
          sorted = one.sorted;
          shown = refl;
        } in
        let first_is : first ≡ slice_get all 0 = shown.2 ∙ ap (λ xs. slice_get xs 0) one.shown ∙ first_taken all in (
          read.1,
          subst (JoinFinds passing (tables_of schema old.now.trees s) (tables_of schema old.now.trees t)) (sym first_is)
              (subst (λ rows. JoinFinds passing rows (tables_of schema old.now.trees t) (slice_get all 0))
              (at s it.listed)
              (subst (λ others. JoinFinds passing (db s) others (slice_get all 0)) (at t other)
              (shown_pair all whole))),
        )

-- ---- the mapping rows of an item

turned : (n e : Bool) → (n && (e && true)) ≡ (e && n)
turned true true = refl
turned true false = refl
turned false true = refl
turned false false = refl

module _ (p : Package) (table : Text) (id : ℤ) (rels maps : List Row) (hr : Holds past_id relation_row rels p.relations)
    (hm : Holds past_rowid pairing_row maps p.pairings) where
  module _ (of : Relation → Text) (number : Pairing → ℤ) (test : Row → Row → Bool)
      (tells : (r m : Row) (name : Text) (v : Relation) (k : Pairing) → past_id r ≡ relation_row name v
      → past_rowid m ≡ pairing_row k tt
      → test r m ≡ (same_text k.mapping name && (same_number (number k) id && (same_text (of v) table && true)))) where
    abbrev ended : Pairing → Bool
    ended k = at_value (λ (v : Relation). same_text (of v) table && same_number (number k) id)
        (get p.relations k.mapping)

    paired : Pair test rels maps → some_entry (λ k _. ended k) p.pairings ≡ true
    paired it =
        let r = it.0 in
        let m = it.1 in
        let a = hr.sound r it.2 in
        let b = hm.sound m it.3 in
        let all = sym (tells r m a.0 a.1 b.0 a.3 b.3) ∙ it.4 in
        let x = and_parts (same_text b.0.mapping a.0)
        (same_number (number b.0) id && (same_text (of a.1) table && true)) all in
        let y = and_parts (same_number (number b.0) id) (same_text (of a.1) table && true) x.1 in
        let z = and_parts (same_text (of a.1) table) true y.1 in
        let same = named b.0.mapping a.0 x.0 in
        let hit : ended b.0 ≡ true = ap
        (at_value (λ (v : Relation). same_text (of v) table && same_number (number b.0) id))
        (ap (get p.relations) same ∙ a.2) ∙ and_from (same_text (of a.1) table) (same_number (number b.0) id) z.0 y.0 in
        true_from_ne_false _ (λ none. both_ways _ (no_entry pairing_keys (λ k _. ended k) p.pairings none b.0 b.1 b.2)
        hit)
      where
        named : (k l : Text) → same_text k l ≡ true → k ≡ l
        named k l e = elim (same_key texts k l) [ inl f ↦ f.0 | inr f ↦ absurd (both_ways _ f.1 e) ]

    unpaired : ((r m : Row) → Has rels r → Has maps m → test r m ≡ false)
        → some_entry (λ k _. ended k) p.pairings ≡ false
    unfolding some_entry
    unpaired none = none_along (λ (e : Pairing × ⊤). ended e.0) (entries p.pairings)
        (along_entries pairing_keys (λ k v. ended k ≡ false) p.pairings
        (λ k v has. by k v has (get p.relations k.mapping) refl))
      where
        by : (k : Pairing) (u : ⊤) → get p.pairings k ≡ Some u → (o : Option Relation) → get p.relations k.mapping ≡ o
            → ended k ≡ false
        by k u has None is = ap (at_value (λ (v : Relation). same_text (of v) table && same_number (number k) id)) is
        by k u has (Some v) is =
            let r = hr.complete k.mapping v is in
            let m = hm.complete k u has in
            let off = sym (tells r.0 m.0 k.mapping v k r.2 m.2) ∙ none r.0 m.0 r.1 m.1 in
            let itself = ap (λ b. b && (same_number (number k) id && (same_text (of v) table && true)))
            (same_itself texts k.mapping) in
            ap (at_value (λ (v : Relation). same_text (of v) table && same_number (number k) id)) is
            ∙ sym (turned (same_number (number k) id) (same_text (of v) table)) ∙ sym itself ∙ off

    pub some_paired : (first : Option Row) → JoinFinds test rels maps first
        → is_some first ≡ some_entry (λ k _. ended k) p.pairings
    some_paired None none = sym (unpaired none)
    some_paired (Some x) it = sym (paired it)

-- ---- as the one end or the other

either_end : (a b : Relation → Bool) (o : Option Relation)
    → (at_value a o || at_value b o) ≡ at_value (λ v. a v || b v) o
either_end a b None = refl
either_end a b (Some v) = refl

pub mapped_by : (p : Package) (table : Text) (id : ℤ)
    → (some_entry (λ (k : Pairing) (_ : ⊤). at_value
    (λ (v : Relation). same_text v.base table && same_number k.base_id id) (get p.relations k.mapping)) p.pairings
    || some_entry (λ (k : Pairing) (_ : ⊤). at_value (λ (v : Relation). same_text v.related table
    && same_number k.related_id id) (get p.relations k.mapping)) p.pairings) ≡ is_mapped p table id
unfolding some_entry
mapped_by p table id =
    either_any (λ (e : Pairing × ⊤). at_value (λ (v : Relation). same_text v.base table && same_number e.0.base_id id)
    (get p.relations e.0.mapping))
    (λ (e : Pairing × ⊤). at_value (λ (v : Relation). same_text v.related table && same_number e.0.related_id id)
    (get p.relations e.0.mapping)) (entries p.pairings)
    ∙ ap (λ (test : Pairing × ⊤ → Bool). list_any test (entries p.pairings))
    (λ i e. either_end (λ v. same_text v.base table && same_number e.0.base_id id)
    (λ v. same_text v.related table && same_number e.0.related_id id) (get p.relations e.0.mapping) i)
