-- The rows of a table in the order of its key are the entries of its part, by rising key.
use Rattle.std.proofs.Common.{◌≡◌, ◌≢◌, inl, inr, Bool, true, false, cond, List, [], ◌∷◌, filter, Option, Some, None}
use Rattle.std.proofs.Common.{refl, sym, ap, subst, ◌∙◌}
use Rattle.std.specs.Prelude.{T}
use Rattle.std.specs.declared.cmp.Ordering.{Ordering}
use Rattle.std.specs.declared.cmp.Ordering.TheVariants.{Less, Equal, Greater}
use Rattle.std.specs.Ordering.{is_lt, is_eq, is_gt, ordering_reverse}
use Rattle.std.specs.List.{AllByRecursion, IsDistinct}
use Rattle.std.specs.List.Sorted.{IsPermutation}
use Rattle.std.specs.FinMap.{FinMap, get, entries, entries_sorted, get-entries, find, is_sorted}
use Rattle.std.specs.FinMap.Entries.{below_all, same_entries}
use Rattle.std.proofs.lemmas.Bool.{both_ways, cases_Bool}
use Rattle.std.proofs.lemmas.List.Sorted.{IsPermutation-sym}
use Rattle.std.proofs.lemmas.Map.Keys.{IsDistinct-IsPermutation}
use Rattle.sqlite.specs.Order.{Row}
use Rattle.sqlite.specs.Tree.{rowid, IsTable}
use Rattle.sql_forms.specs.Tree.{IsAscending}
use Rattle.sql_forms.specs.Order.{value_cmp}
use Rattle.sql_forms.proofs.OrderLemmas.{value_cmp_total}
use Rattle.sql_forms.specs.Lists.{Has}
use Rattle.sql_forms.proofs.ListLemmas.{all_has, all_from}
use Rattle.sql_forms.specs.Maps.{Holds}
use Rattle.sql_forms.proofs.Lists.{has_permuted}
use Rattle.mm_definitions.proofs.Listed.{and_both}
use Rattle.mm_definitions.proofs.Parts.{same_key, same_itself, not_none}
use Rattle.mm_store.proofs.Parts.{IsPart}
use Rattle.mm_reads.proofs.Distinct.{never_same, distinct_rows, has_same_id}

-- ---- rows whose rowids rise are apart

pub turned : (o : Ordering) → is_eq (ordering_reverse o) ≡ is_eq o
turned Less = refl
turned Equal = refl
turned Greater = refl

flips : (a b : Row) → has_same_id a b ≡ has_same_id b a
flips a b = ap is_eq (value_cmp_total.antisymm (rowid a) (rowid b)) ∙ turned (value_cmp (rowid b) (rowid a))

-- ---- of rows that are apart one passes a test at most

none_kept : (test : Row → Bool) (rows : List Row) → ((r : Row) → Has rows r → test r ≡ false) → filter test rows ≡ []
none_kept test [] none = refl
none_kept test (x ∷ rows) none = let off = none x (inl refl) in let more =
    none_kept test rows (λ r there. none r (inr there)) in rw (off, more)

one_kept : (test : Row → Bool) (rows : List Row) → IsTable rows
    → ((r s : Row) → Has rows r → Has rows s → test r ≡ true → test s ≡ true → r ≡ s)
    → (r : Row) → Has rows r → test r ≡ true → filter test rows ≡ r ∷ []
one_kept test [] up alone r there hit = absurd there
one_kept test (x ∷ rows) up alone r there hit = elim (cases_Bool (test x)) [
  | inl hits ↦
      let rest = none_kept test rows (λ s later. elim (cases_Bool (test s)) as (λ _. test s ≡ false) [
        | inl also ↦ absurd (never_same x s
            (ap is_eq (all_has (λ y. value_cmp (rowid x) (rowid y) ≡ Less) rows s up.0 later))
            (alone x s (inl refl) (inr later) hits also))
        | inr off ↦ off
      ]) in
      let same = alone x r (inl refl) there hits hit in
      rw (hits, rest) (ap (λ y. y ∷ []) same)
  | inr off ↦ elim there [
    | inl same ↦ absurd (both_ways (test x) off (sym (ap test same) ∙ hit))
    | inr later ↦ let rest = one_kept test rows up.1 (λ a b p q. alone a b (inr p) (inr q)) r later hit in rw
        (off, rest)
  ]
]

module _ {K V : Type 0} {R : K → K → Ordering} {part : Row → Row} {row_of : K → V → Row} {test : K → Row → Bool}
    (it : IsPart R part row_of test) (rows : List Row) (m : FinMap R V) (h : Holds part row_of rows m)
    (up : IsTable rows) where
  passing_key : (k : K) (r : Row) → test k r ≡ true → (l : K) (v : V) → part r ≡ row_of l v → l ≡ k
  passing_key k r hit l v is = elim (same_key it.order l k)
      [ inl same ↦ same.0 | inr off ↦ absurd (both_ways (test k r) (it.decides k r l v is ∙ off.1) hit) ]

  -- what a filter by the key leaves: the row of the entry, if there is one
  abbrev pub Picks : K → Option V → List Row → Type 0
  Picks k None xs = xs ≡ []
  Picks k (Some v) xs = (r : Row) × (xs ≡ r ∷ []) × (part r ≡ row_of k v)

  pub picked : (k : K) (o : Option V) → get m k ≡ o → Picks k o (filter (test k) rows)
  picked k None none = none_kept (test k) rows (λ r there. elim (cases_Bool (test k r)) as (λ _. test k r ≡ false) [
    | inl hit ↦ let at = h.sound r there in absurd
        (not_none at.2 (ap (get m) (passing_key k r hit at.0 at.1 at.3) ∙ none))
    | inr off ↦ off
  ])
  picked k (Some v) is =
      let r = h.complete k v is in (
        r.0,
        one_kept (test k) rows up (λ a b p q a_hit b_hit.
            let at = h.sound a p in
            let bt = h.sound b q in
            let a_is = passing_key k a a_hit at.0 at.1 at.3 in
            let b_is = passing_key k b b_hit bt.0 bt.1 bt.3 in
            h.apart a b p q k at.1 bt.1 (subst (λ l. part a ≡ row_of l at.1) a_is at.3)
            (subst (λ l. part b ≡ row_of l bt.1) b_is bt.3))
            r.0 r.1 (it.decides k r.0 k v r.2 ∙ same_itself it.order k),
        r.2,
      )

  -- ---- rows in the order of the key

  -- the row stands for this entry
  abbrev pub Enters : Row → Type 0
  Enters r = (k : K) × (v : V) × (get m k ≡ Some v) × (part r ≡ row_of k v)

  abbrev pub entered : (xs : List Row) → AllByRecursion Enters xs → List (K × V)
  entered [] all = []
  entered (x ∷ xs) all = (all.0.0, all.0.1) ∷ entered xs all.1

  -- an order of the rows that tells the order of their keys
  module _ (order : Row → Row → Type 0) (tells : (r s : Row) (k l : K) (v w : V) → part r ≡ row_of k v
      → part s ≡ row_of l w → order r s → is_gt (R k l) ≡ false) where
    less : (r s : Row) → Has rows r → Has rows s → has_same_id r s ≡ false → (a : Enters r) (b : Enters s) → order r s
        → T (is_lt (R a.0 b.0))
    less r s p q off a b low = go (R a.0 b.0) refl (tells r s a.0 b.0 a.1 b.1 a.3 b.3 low)
      where
        go : (o : Ordering) → R a.0 b.0 ≡ o → is_gt o ≡ false → T (is_lt o)
        go Less is off_gt = tt
        go Equal is off_gt = absurd (never_same r s off
            (h.apart r s p q a.0 a.1 b.1 a.3
            (subst (λ l. part s ≡ row_of l b.1) (sym (it.order.exact a.0 b.0 is)) b.3)))
        go Greater is off_gt = absurd (let e : true ≡ false = off_gt in cc)

    below : (x : Row) (a : Enters x) → Has rows x → (xs : List Row) (all : AllByRecursion Enters xs)
        → ((r : Row) → Has xs r → Has rows r)
        → AllByRecursion (order x) xs → AllByRecursion (λ y. has_same_id x y ≡ false) xs
        → T (below_all R a.0 (entered xs all))
    below x a there [] all within low off = tt
    below x a there (y ∷ xs) all within low off =
        and_both _ _ (less x y there (within y (inl refl)) off.0 a all.0 low.0)
        (below x a there xs all.1 (λ r later. within r (inr later)) low.1 off.1)

    rises : (xs : List Row) (all : AllByRecursion Enters xs) → ((r : Row) → Has xs r → Has rows r)
        → IsAscending order xs → IsDistinct has_same_id xs
        → T (is_sorted R (entered xs all))
    unfolding IsDistinct
    rises [] all within low off = tt
    rises (x ∷ xs) all within low off =
        and_both _ _ (below x all.0 (within x (inl refl)) xs all.1 (λ r later. within r (inr later)) low.0 off.0)
        (rises xs all.1 (λ r later. within r (inr later)) low.1 off.1)

    find_entered : (q : K) (xs : List Row) (all : AllByRecursion Enters xs)
        → ((v : V) → get m q ≡ Some v → (r : Row) × Has xs r × (part r ≡ row_of q v))
        → find R q (entered xs all) ≡ get m q
    find_entered q [] all so = go (get m q) refl
      where
        go : (o : Option V) → get m q ≡ o → None ≡ o
        go None is = refl
        go (Some v) is = absurd (so v is).1
    find_entered q (x ∷ xs) all so = elim (same_key it.order q all.0.0) as
        (λ _. find R q (entered (x ∷ xs) all) ≡ get m q) [
          | inl same ↦ ap (λ b. cond b (Some all.0.1) (find R q (entered xs all.1))) same.1
              ∙ sym (ap (get m) same.0 ∙ all.0.2)
          | inr off ↦ ap (λ b. cond b (Some all.0.1) (find R q (entered xs all.1))) off.1
              ∙ find_entered q xs all.1 (λ v is. later off.0 v (so v is))
        ]
      where
        later : (q ≢ all.0.0) → (v : V) → (r : Row) × Has (x ∷ xs) r × (part r ≡ row_of q v) → (r : Row) × Has xs r
            × (part r ≡ row_of q v)
        later off v (r, inl same, is) = absurd (off (it.key_is q all.0.0 v all.0.1 (sym is ∙ ap part same ∙ all.0.3)))
        later off v (r, inr there, is) = (r, there, is)

    module _ (xs : List Row) (same : IsPermutation rows xs) where
      within : (r : Row) → Has xs r → Has rows r
      within r there = has_permuted rows xs r same there

      pub all_entered : AllByRecursion Enters xs
      all_entered = all_from Enters xs (λ r there. h.sound r (within r there))

      -- The rows are all of the table's, in order.
      pub entries_are : IsAscending order xs → entries m ≡ entered xs all_entered
      entries_are low =
          same_entries R it.order.total it.order.exact (entries m) (entered xs all_entered) (entries_sorted m)
          (rises xs all_entered within low
          (IsDistinct-IsPermutation has_same_id flips rows xs same (distinct_rows rows up)))
          (λ q. sym (get-entries m q) ∙ sym
          (find_entered q xs all_entered (λ v is. let r =
          h.complete q v is in (r.0, has_permuted xs rows r.0 (IsPermutation-sym rows xs same) r.1, r.2))))
