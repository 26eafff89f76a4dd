-- The list of an item's mapping rows, from the rows that the query shows.
use Rattle.std.proofs.Common.{◌≡◌, ◌≢◌, inl, inr, ℤ, true, false, cond, ◌&&◌, List, [], ◌∷◌, map, Option, Some, None}
use Rattle.std.proofs.Common.{option_map, refl, sym, ap, subst, ◌∙◌}
use Rattle.std.specs.Prelude.{T, ⊤}
use Rattle.std.specs.declared.cmp.Ordering.{Ordering}
use Rattle.std.specs.declared.cmp.Ordering.TheVariants.{Less, Equal, Greater}
use Rattle.std.specs.Ordering.{is_lt, is_eq, is_gt}
use Rattle.std.specs.Cmp.{tied_itself}
use Rattle.std.specs.List.{AllByRecursion, IsDistinct, flat_map}
use Rattle.std.specs.List.Sorted.{IsPermutation}
use Rattle.std.specs.FinMap.{get, entries_sorted, get-entries, find, is_sorted, retain_keys}
use Rattle.std.specs.FinMap.Entries.{below_all, same_entries}
use Rattle.std.proofs.lemmas.Bool.{and_parts, and_from}
use Rattle.std.proofs.lemmas.List.Sorted.{IsPermutation-sym}
use Rattle.std.proofs.lemmas.Map.Keys.{IsDistinct-IsPermutation}
use Rattle.sqlite.specs.declared.types.Value.TheVariants.{Int, Text as Words}
use Rattle.sqlite.specs.Order.{Row, column}
use Rattle.sqlite.specs.Query.{Output, output_cmp, matches, inner, end, IsAnswer}
use Rattle.sqlite.specs.Term.{Env}
use Rattle.sqlite.specs.Tree.{Trees, IsTable}
use Rattle.sql_forms.specs.Tree.{IsAscending}
use Rattle.sql_forms.proofs.PartitionLemmas.{ascending_from_sorted}
use Rattle.sql_forms.proofs.QueryLemmas.{output_cmp_total}
use Rattle.sql_forms.specs.Lists.{Has}
use Rattle.sql_forms.proofs.ListLemmas.{all_from}
use Rattle.sql_forms.proofs.ProbeLemmas.{has_mapped, mapped_has}
use Rattle.sql_forms.specs.Maps.{Holds}
use Rattle.sql_forms.proofs.Lists.{has_flat, flat_has, has_permuted}
use Rattle.mm_definitions.specs.Keys.{Text, same_text, same_number, Pairing, pairing_cmp}
use Rattle.mm_definitions.specs.Package.{Package, Relation}
use Rattle.mm_definitions.specs.declared.entries.Related.{Related}
use Rattle.mm_definitions.proofs.Listed.{and_both}
use Rattle.mm_definitions.proofs.Parts.{same_key, same_itself, after_retain}
use Rattle.mm_definitions.proofs.KeyLaws.{texts, numbers, pairing_keys}
use Rattle.mm_laws.proofs.KindFacts.{at_true, are_same}
use Rattle.mm_store.specs.Rows.{past_rowid, past_id, relation_row, pairing_row}
use Rattle.mm_store.proofs.Keys.{same_words, same_int}
use Rattle.mm_layout.proofs.Joined.{base_tells}
use Rattle.mm_reads.specs.Related.{is_from, mapping_rows, mate, mate_told, ListsMates, ShowsRelated}
use Rattle.mm_reads.proofs.Asked.{terms, asked}
use Rattle.mm_reads.proofs.Distinct.{distinct_map}
use Rattle.mm_reads.proofs.Mates.{IsMatch, IsMate, out, ties, env, passing, mate_of, mate_key, cmp_is, one_key}
use Rattle.mm_reads.proofs.Mates.{match_of, beside, beside_has, has_beside, all_apart}
use Rattle.mm_reads.proofs.InOrder.{turned}

flips : (a b : Output) → ties a b ≡ ties b a
flips a b = ap is_eq ((output_cmp_total asked).antisymm a b) ∙ turned (output_cmp asked b a)

-- each row shows the entry that is told of it
abbrev pub ShowsAll : List Row → List Related → Type 0
ShowsAll [] items = items ≡ []
ShowsAll (r ∷ rows) [] = ⊥
ShowsAll (r ∷ rows) (t ∷ items) = ShowsRelated r t × ShowsAll rows items

abbrev AtMost : Output → Output → Type 0
AtMost o u = is_gt (output_cmp asked o u) ≡ false

module _ (p : Package) (table : Text) (id : ℤ) where
  abbrev Is : Output → Type 0
  Is = IsMate p table id

  abbrev pub entered : (xs : List Output) → AllByRecursion Is xs → List (Pairing × ⊤)
  entered [] all = []
  entered (x ∷ xs) all = (all.0.key, tt) ∷ entered xs all.1

  -- ---- they rise

  less : (o u : Output) (a : Is o) (b : Is u) → AtMost o u → ties o u ≡ false → T (is_lt (pairing_cmp a.key b.key))
  less o u a b low off = subst (λ c. T (is_lt c)) (cmp_is p table id o u a b) (go (output_cmp asked o u) low off)
    where
      go : (c : Ordering) → is_gt c ≡ false → is_eq c ≡ false → T (is_lt c)
      go Less x y = tt
      go Equal x y = absurd (let e : true ≡ false = y in cc)
      go Greater x y = absurd (let e : true ≡ false = x in cc)

  below : (o : Output) (a : Is o) (xs : List Output) (all : AllByRecursion Is xs) → AllByRecursion (AtMost o) xs
      → AllByRecursion (λ u. ties o u ≡ false) xs → T (below_all pairing_cmp a.key (entered xs all))
  below o a [] all low off = tt
  below o a (x ∷ xs) all low off = and_both _ _ (less o x a all.0 low.0 off.0) (below o a xs all.1 low.1 off.1)

  rises : (xs : List Output) (all : AllByRecursion Is xs) → IsAscending AtMost xs → IsDistinct ties xs
      → T (is_sorted pairing_cmp (entered xs all))
  unfolding IsDistinct
  rises [] all low off = tt
  rises (x ∷ xs) all low off = and_both _ _ (below x all.0 xs all.1 low.0 off.0) (rises xs all.1 low.1 off.1)

  -- ---- all are among them

  abbrev Shown : List Output → Pairing → Type 0
  Shown xs q = (o : Output) × Has xs o × (a : Is o) × (a.key ≡ q)

  abbrev at : Pairing → Option ⊤
  at q = get (retain_keys p.pairings (is_from p table id)) q

  find_entered : (q : Pairing) (xs : List Output) (all : AllByRecursion Is xs) → ((v : ⊤) → at q ≡ Some v → Shown xs q)
      → find pairing_cmp q (entered xs all) ≡ at q
  find_entered q [] all so = go (at q) refl
    where
      go : (o : Option ⊤) → at q ≡ o → None ≡ o
      go None is = refl
      go (Some v) is = absurd (so v is).1
  find_entered q (x ∷ xs) all so = elim (same_key pairing_keys q all.0.key) as
      (λ _. find pairing_cmp q (entered (x ∷ xs) all) ≡ at q) [
        | inl same ↦ ap (λ b. cond b (Some tt) (find pairing_cmp q (entered xs all.1))) same.1
            ∙ sym (ap at same.0 ∙ all.0.stands)
        | inr off ↦ ap (λ b. cond b (Some tt) (find pairing_cmp q (entered xs all.1))) off.1
            ∙ find_entered q xs all.1 (λ v is. later off.0 (so v is))
      ]
    where
      later : (q ≢ all.0.key) → Shown (x ∷ xs) q → Shown xs q
      later off (o, inl same, a, is) =
          absurd (off (sym is ∙ one_key p table id o x a all.0
          (ap (ties o) (sym same) ∙ ap is_eq (tied_itself (output_cmp_total asked) o))))
      later off (o, inr there, a, is) = (o, there, a, is)

  -- ---- what is told of them

  told_is : (o : Output) (a : Is o) (t : Related) → ShowsRelated o.1 t → mate_told t ≡ mate p (a.key, tt)
  told_is o a t it =
      let mapping = same_words (sym it.mapping ∙ ap (λ (r : Row). column r 0) a.shows) in
      let name = same_words (sym it.name ∙ ap (λ (r : Row). column r 1) a.shows) in
      let other = same_words (sym it.table ∙ ap (λ (r : Row). column r 2) a.shows) in
      let number = same_int (sym it.id ∙ ap (λ (r : Row). column r 3) a.shows) in
      let named = ap Some name ∙ sym (ap (option_map (λ (r : Relation). r.name)) a.related) in
      let mated = ap Some other ∙ sym (ap (option_map (λ (r : Relation). r.related)) a.related) in
      λ i. record { mapping = mapping i; name = named i; table = mated i; id = number i }

  told_all : (xs : List Output) (all : AllByRecursion Is xs) (items : List Related)
      → ShowsAll (map (λ (o : Output). o.1) xs) items
      → map mate_told items ≡ map (mate p) (entered xs all)
  told_all [] all items none = ap (map mate_told) none
  told_all (x ∷ xs) all [] it = absurd it
  told_all (x ∷ xs) all (t ∷ items) it =
      let one = told_is x all.0 t it.0 in
      let more = told_all xs all.1 items it.1 in
      λ i. one i ∷ more i

  -- ---- the whole list

  module _ (rels maps : List Row) (hr : Holds past_id relation_row rels p.relations)
      (hm : Holds past_rowid pairing_row maps p.pairings) (up_rels : IsTable rels) (up_maps : IsTable maps)
      (db : Trees) (here : db 10 ≡ rels) (there : db 21 ≡ maps) where
    abbrev params : Row
    params = Words table ∷ Int id ∷ []

    abbrev envs : List Env
    envs = flat_map (beside p table id rels maps hr hm) rels

    matched : matches db terms (inner 10 (inner 21 end)) (params ∷ []) ≡ envs
    matched = rw (here, there) refl

    env_is : (x : Env) → Has envs x → Is (out x)
    env_is x h =
        let r = has_flat (beside p table id rels maps hr hm) rels x h in
        let m = beside_has p table id rels maps hr hm r.0 x r.2 in
        subst (λ e. Is (out e)) (sym m.3)
        (mate_of p table id r.0 m.0 (match_of p table id rels maps hr hm r.0 m.0 r.1 m.1 m.2))

    shown_of : (q : Pairing) (v : ⊤) → at q ≡ Some v → Shown (map out envs) q
    shown_of q v is =
        let a = after_retain pairing_keys p.pairings (is_from p table id) q v is in
        let s = at_true (λ (r : Relation). same_text r.base table && same_number q.base_id id)
        (get p.relations q.mapping) a.0 in
        let parts = and_parts (same_text s.0.base table) (same_number q.base_id id) s.2 in
        let r = hr.complete q.mapping s.0 s.1 in
        let m = hm.complete q v a.1 in
        let inside = and_from (same_number q.base_id id) (same_text s.0.base table && true) parts.1
        (and_from (same_text s.0.base table) true parts.0 refl) in
        let hit : passing p table id r.0 m.0 ≡ true =
        base_tells table id r.0 m.0 q.mapping s.0 q r.2 m.2
        ∙ and_from (same_text q.mapping q.mapping) (same_number q.base_id id && (same_text s.0.base table && true))
        (same_itself texts q.mapping) inside in
        let it : IsMatch p table id r.0 m.0 =
        record {
          key = q;
          relation = s.0;
          of_relation = r.2;
          of_pairing = m.2;
          related = s.1;
          paired = a.1;
          based = are_same numbers q.base_id id parts.1;
          from = a.0;
        } in (
          out (env p table id r.0 m.0),
          mapped_has out envs (env p table id r.0 m.0)
              (flat_has (beside p table id rels maps hr hm) rels r.0 (env p table id r.0 m.0) r.1
              (has_beside p table id rels maps hr hm r.0 m.0 m.1 hit)),
          mate_of p table id r.0 m.0 it,
          mate_key p table id r.0 m.0 it,
        )

    pub lists_mates : (rows : List Row) → IsAnswer asked db params rows → (items : List Related) → ShowsAll rows items
        → ListsMates p table id items
    lists_mates rows a items it =
        let kept : a.kept ≡ map out envs = a.distinct ∙ ap (map out) (a.grouped ∙ matched) in
        let same : IsPermutation (map out envs) a.ordered = subst (λ k. IsPermutation k a.ordered) kept a.same in
        let all = all_from Is a.ordered
        (λ o in_order. let e = has_mapped out envs o (has_permuted (map out envs) a.ordered o same in_order) in subst Is
        (sym e.2) (env_is e.0 e.1)) in
        let low = ascending_from_sorted (output_cmp asked) (output_cmp_total asked) a.ordered a.sorted in
        let off = IsDistinct-IsPermutation ties flips (map out envs) a.ordered same
        (distinct_map out ties envs (all_apart p table id rels maps hr hm up_rels up_maps)) in
        let up = rises a.ordered all low off in
        let found : (q : Pairing) → find pairing_cmp q (entered a.ordered all) ≡ at q =
        λ q. find_entered q a.ordered all
        (λ v is. let s = shown_of q v is in (
          s.0,
          has_permuted a.ordered (map out envs) s.0 (IsPermutation-sym (map out envs) a.ordered same) s.1,
          s.2,
          s.3,
        )) in
        let are : mapping_rows p table id ≡ entered a.ordered all =
        same_entries pairing_cmp pairing_keys.total pairing_keys.exact (mapping_rows p table id) (entered a.ordered all)
        (entries_sorted (retain_keys p.pairings (is_from p table id))) up
        (λ q. sym (get-entries (retain_keys p.pairings (is_from p table id)) q) ∙ sym (found q)) in
        told_all a.ordered all items (subst (λ rs. ShowsAll rs items) a.shown it) ∙ ap (map (mate p)) (sym are)
