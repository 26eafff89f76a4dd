-- The rows of a table, as lists.
use Rattle.std.proofs.Common.{◌≡◌, inl, inr, ℤ, Bool, true, false, not, ◌&&◌, ◌||◌, cond, List, [], ◌∷◌, filter, map}
use Rattle.std.proofs.Common.{refl, sym, ap, subst, subst₂, ◌∙◌, IsTrue, Less, Equal, is_eq}
use Rattle.std.specs.List.{list_any}
use Rattle.std.specs.List.Sorted.{IsPermutation}
use Rattle.std.specs.Ordering.{ordering_reverse}
use Rattle.std.proofs.lemmas.Bool.{cases_Bool, false_from_ne_true, both_ways}
use Rattle.std.proofs.lemmas.List.Sorted.{IsPermutation-sym}
use Rattle.std.proofs.lemmas.Cmp.{tied_itself}
use Rattle.std.specs.Cmp.{Equal-is}
use Rattle.sqlite.specs.declared.types.Value.TheVariants.{Int}
use Rattle.sqlite.specs.Order.{Row}
use Rattle.sqlite_value.specs.Order.{value_cmp}
use Rattle.sqlite_value.proofs.OrderLemmas.{value_cmp_total}
use Rattle.sqlite.specs.Tree.{rowid, IsTable, has_rowid, put_row, without_rowid}
use Rattle.sqlite.specs.View.{is_int}
use Rattle.sqlite_trees.proofs.ListLemmas.{ascending-filter, all-map, filter_same, filter_all}
use Rattle.sqlite_trees.proofs.TreeLemmas.{IsTable-put_row}
use Rattle.sqlite_rules.proofs.ProbeLemmas.{has_mapped, mapped_has}
use Rattle.sqlite_rules.specs.Lists.{Has}
use Rattle.sqlite_rules.specs.Edit.{id_in, without_all, put_all, are_fresh}
use Rattle.sqlite_rules.proofs.ListLemmas.{all_has, all_from, some_has, some_from, has_filtered, has_kept}
use Rattle.sqlite_rules.proofs.TableLemmas.{int_is, put_all_has, put_all_adds, put_all_keeps}
use Rattle.sqlite_rules.proofs.PlaceLemmas.{Tied, tied_same}
use Rattle.sql_forms.specs.Tables.{AreRows, without, with_changed}
use Rattle.sql_forms.proofs.Lists.{filter_twice, has_permuted, not_true}

never_both : (a b : Row) → value_cmp (rowid a) (rowid b) ≡ Less → value_cmp (rowid b) (rowid a) ≡ Less → ⊥
never_both a b p q = let e = value_cmp_total.antisymm (rowid a) (rowid b) ∙ ap ordering_reverse q in cc

never_self : (a : Row) → value_cmp (rowid a) (rowid a) ≡ Less → ⊥
never_self a p = never_both a a p p

-- two tables with the same rows are one
pub same_rows : (xs ys : List Row) → IsTable xs → IsTable ys → ((r : Row) → Has xs r → Has ys r)
    → ((r : Row) → Has ys r → Has xs r) → xs ≡ ys
same_rows [] [] p q a b = refl
same_rows [] (y ∷ ys) p q a b = absurd (b y (inl refl))
same_rows (x ∷ xs) [] p q a b = absurd (a x (inl refl))
same_rows (x ∷ xs) (y ∷ ys) p q a b =
    let first : x ≡ y = elim (a x (inl refl)) [
      | inl same ↦ same
      | inr later ↦ elim (b y (inl refl)) [
        | inl same ↦ sym same
        | inr also ↦ absurd
            (never_both y x (all_has _ ys x q.0 later) (all_has _ xs y p.0 also))
      ]
    ] in
    let there : (r : Row) → Has xs r → Has ys r = λ r h. elim (a r (inr h)) [
      | inr later ↦ later
      | inl same ↦ absurd (never_self x
          (subst (λ z. value_cmp (rowid x) (rowid z) ≡ Less) (same ∙ sym first) (all_has _ xs r p.0 h)))
    ] in
    let back : (r : Row) → Has ys r → Has xs r = λ r h. elim (b r (inr h)) [
      | inr later ↦ later
      | inl same ↦ absurd (never_self y
          (subst (λ z. value_cmp (rowid y) (rowid z) ≡ Less) (same ∙ first) (all_has _ ys r q.0 h)))
    ] in
    let rest : xs ≡ ys = same_rows xs ys p.1 q.1 there back in
    rw (first, rest)

abbrev has_one_of : List ℤ → Row → Bool
has_one_of ids r = list_any (λ id. has_rowid id r) ids

nor : (a b : Bool) → (not a && not b) ≡ not (a || b)
nor true b = refl
nor false b = refl

pub without_all_is : (ids : List ℤ) (rows : List Row) → without_all rows ids ≡ without (has_one_of ids) rows
without_all_is [] rows = sym (filter_all (λ r. true) rows (all_from _ rows (λ r h. refl)))
without_all_is (id ∷ ids) rows =
    without_all_is ids (without_rowid id rows) ∙ filter_twice _ _ rows
    ∙ filter_same _ _ rows (all_from _ rows (λ r h. nor (has_rowid id r) (has_one_of ids r)))

abbrev pub ids_where : (Row → Bool) → List Row → List ℤ
ids_where test rows = map (λ r. id_in (rowid r)) (filter test rows)

its_own : (v : Row) → IsTrue (is_int (rowid v)) → has_rowid (id_in (rowid v)) v ≡ true
its_own v keyed = subst (λ x. is_eq (value_cmp (rowid v) x) ≡ true) (int_is (rowid v) keyed)
    (ap is_eq (tied_itself value_cmp_total (rowid v)))

-- the rowids of the rows that pass name those rows and no other
pub picks : (test : Row → Bool) (rows : List Row) → AreRows rows → (r : Row) → Has rows r
    → has_one_of (ids_where test rows) r ≡ test r
picks test rows are r h = elim (cases_Bool (test r)) [
  | inl passes ↦ some_from (λ id. has_rowid id r) _ _
      (mapped_has (λ (x : Row). id_in (rowid x)) (filter test rows) r (has_kept test rows r h passes))
      (its_own r (all_has _ rows r are.keyed h)) ∙ sym passes
  | inr fails ↦ false_from_ne_true _ (λ any.
      let found = some_has (λ id. has_rowid id r) _ any in
      let from = has_mapped (λ (x : Row). id_in (rowid x)) (filter test rows) found.0 found.1 in
      let was = has_filtered test rows from.0 from.1 in
      let tie : Tied r from.0 = subst (λ v. value_cmp (rowid r) v ≡ Equal)
      (ap Int from.2 ∙ sym (int_is (rowid from.0) (all_has _ rows from.0 are.keyed was.0))) ((Equal-is _).0 found.2) in
      let same = tied_same rows r from.0 are.rise h was.0 tie in
      both_ways _ fails (ap test same ∙ was.1)) ∙ sym fails
]

-- ---- rows that are changed where they stand

pub rises : (f : Row → Row) (rows : List Row) → ((r : Row) → Has rows r → rowid (f r) ≡ rowid r) → AreRows rows
    → AreRows (map f rows)
rises f rows same are = record {
  rise = ascending f rows same are.rise;
  keyed = all-map _ f rows (all_from _ rows
      (λ r h. subst (λ v. IsTrue (is_int v)) (sym (same r h)) (all_has _ rows r are.keyed h)));
}
  where
    ascending : (f : Row → Row) (rows : List Row) → ((r : Row) → Has rows r → rowid (f r) ≡ rowid r) → IsTable rows
        → IsTable (map f rows)
    ascending f [] same up = tt
    ascending f (x ∷ rows) same up = (
      all-map _ f rows (all_from _ rows
          (λ r h. subst₂ (λ a b. value_cmp a b ≡ Less) (sym (same x (inl refl))) (sym (same r (inr h)))
          (all_has _ rows r up.0 h))),
      ascending f rows (λ r h. same r (inr h)) up.1,
    )

pub table_of_all : (news rows : List Row) → IsTable rows → IsTable (put_all rows news)
table_of_all [] rows up = up
table_of_all (n ∷ news) rows up = table_of_all news (put_row n rows) (IsTable-put_row n rows up)

abbrev changed_if : (Row → Bool) → (Row → Row) → Row → Row
changed_if test change r = cond (test r) (change r) r

-- the rows that pass are taken out, and put in again as they are to be
module _ (test : Row → Bool) (change : Row → Row) (rows news : List Row) (are : AreRows rows)
    (keeps : (r : Row) → Has rows r → rowid (change r) ≡ rowid r)
    (put : IsPermutation (map change (filter test rows)) news) (fresh : are_fresh (without test rows) news ≡ true) where
  at_place : (r : Row) → Has rows r → rowid (changed_if test change r) ≡ rowid r
  at_place r h = elim (test r) as (λ b. rowid (cond b (change r) r) ≡ rowid r) [ true ↦ keeps r h | false ↦ refl ]

  here : (r : Row) (b : Bool) → test r ≡ b → Has rows r → Has (map (changed_if test change) rows) (cond b (change r) r)
  here r b is h = subst (λ c. Has (map (changed_if test change) rows) (cond c (change r) r)) is
      (mapped_has (changed_if test change) rows r h)

  there : (x : Row) → Has (put_all (without test rows) news) x → Has (with_changed test change rows) x
  there x h = elim (put_all_has news (without test rows) x h) [
    | inl new ↦
        let from = has_mapped change (filter test rows) x (has_permuted _ _ x put new) in
        let was = has_filtered test rows from.0 from.1 in
        rw from.2 (here from.0 true was.1 was.0)
    | inr left ↦ let was = has_filtered (λ r. not (test r)) rows x left in here x false (not_true _ was.1) was.0
  ]

  back : (x : Row) → Has (with_changed test change rows) x → Has (put_all (without test rows) news) x
  back x h =
      let from = has_mapped (changed_if test change) rows x h in
      rw from.2 (go from.0 from.1 (test from.0) refl)
    where
      go : (r : Row) → Has rows r → (b : Bool) → test r ≡ b
          → Has (put_all (without test rows) news) (cond b (change r) r)
      go r h true is = put_all_adds news (without test rows) (change r) fresh
          (has_permuted _ _ (change r) (IsPermutation-sym _ _ put)
          (mapped_has change (filter test rows) r (has_kept test rows r h is)))
      go r h false is = put_all_keeps news (without test rows) r fresh
          (has_kept (λ x. not (test x)) rows r h (ap not is))

  pub changed_are : AreRows (with_changed test change rows)
  changed_are = rises (changed_if test change) rows at_place are

  pub changed_is : put_all (without test rows) news ≡ with_changed test change rows
  changed_is = same_rows _ _ (table_of_all news _ (ascending-filter _ _ rows are.rise)) changed_are.rise there back
