-- How many rows of a table have a key that is kept.
use Rattle.std.proofs.Common.{◌≡◌, inl, inr, ℕ, zero, suc, ◌-◌, Bool, true, cond, not, List, [], ◌∷◌, length, filter}
use Rattle.std.proofs.Common.{Option, Some, None, is_some, refl, sym, ap, subst, ◌∙◌, arith}
use Rattle.std.specs.declared.cmp.Ordering.{Ordering}
use Rattle.std.specs.declared.cmp.Ordering.TheVariants.{Less}
use Rattle.std.specs.Ordering.{is_eq, eq_by_cmp}
use Rattle.std.specs.Prelude.{◌||◌, map}
use Rattle.std.specs.List.{AllByRecursion, list_any}
use Rattle.std.specs.FinMap.{FinMap, get, contains_key, remove, retain_keys, empty, len, entries, same_map, get-empty}
use Rattle.std.specs.FinMap.{len-empty, len-entries, len-remove, empty_of_len, contains_key-keys}
use Rattle.std.proofs.lemmas.Bool.{cases_Bool}
use Rattle.sqlite.specs.Order.{Row}
use Rattle.sqlite.specs.Tree.{rowid, IsTable}
use Rattle.sql_forms.specs.Order.{value_cmp}
use Rattle.sql_forms.specs.Lists.{Has}
use Rattle.sql_forms.proofs.ListLemmas.{all_has}
use Rattle.sql_forms.specs.Tables.{without}
use Rattle.sql_forms.specs.Maps.{Holds}
use Rattle.sql_forms.proofs.Lists.{not_not}
use Rattle.mm_definitions.proofs.Parts.{IsKeyOrder, same_key, same_itself, none_of, true_or_false, at_remove}
use Rattle.mm_definitions.proofs.Parts.{after_remove, beside_remove, kept, let_go}
use Rattle.mm_laws.proofs.Counted.{one_more, some_there}
use Rattle.mm_store.proofs.Parts.{IsPart, retains}
use Rattle.mm_reads.proofs.Distinct.{never_same}

all_kept : (P : Row → Type 0) (keep : Row → Bool) (xs : List Row) → AllByRecursion P xs
    → AllByRecursion P (filter keep xs)
all_kept P keep [] all = tt
all_kept P keep (x ∷ xs) all = elim (cases_Bool (keep x)) as (λ _. AllByRecursion P (filter keep (x ∷ xs)))
    [ inl hit ↦ rw hit (all.0, all_kept P keep xs all.1) | inr off ↦ rw off (all_kept P keep xs all.1) ]

rises_kept : (keep : Row → Bool) (xs : List Row) → IsTable xs → IsTable (filter keep xs)
rises_kept keep [] up = tt
rises_kept keep (x ∷ xs) up = elim (cases_Bool (keep x)) as (λ _. IsTable (filter keep (x ∷ xs)))
    [ inl hit ↦ rw hit (all_kept _ keep xs up.0, rises_kept keep xs up.1) | inr off ↦ rw off (rises_kept keep xs up.1) ]

-- ---- maps with the same keys

first_key : {K V : Type 0} {R : K → K → Ordering} → IsKeyOrder R → (m : FinMap R V) (n : ℕ) → len m ≡ suc n → (k : K)
    × (contains_key m k ≡ true)
first_key {K} {V} {R} o m n e = go (entries m) refl
  where
    go : (es : List (K × V)) → entries m ≡ es → (k : K) × (contains_key m k ≡ true)
    go [] is = absurd (let none : suc n ≡ 0 = sym e ∙ len-entries m ∙ ap length is in omega (arith, none))
    go (x ∷ es) is = (
      x.0,
      contains_key-keys m x.0 ∙ ap (λ l. list_any (eq_by_cmp R x.0) (map (λ y. y.0) l)) is
          ∙ ap (λ b. b || list_any (eq_by_cmp R x.0) (map (λ y. y.0) es)) (same_itself o x.0),
    )

module _ {K V W : Type 0} {R : K → K → Ordering} (o : IsKeyOrder R) where
  abbrev HaveSameKeys : FinMap R V → FinMap R W → Type 0
  HaveSameKeys a b = (k : K) → contains_key a k ≡ contains_key b k

  same_keys_removed : (a : FinMap R V) (b : FinMap R W) → HaveSameKeys a b → (k : K)
      → HaveSameKeys (remove a k) (remove b k)
  same_keys_removed a b same k q = elim (same_key o q k) [
    | inl is ↦ ap (λ l. is_some (get (remove a k) l)) is.0 ∙ ap is_some (at_remove o a k)
        ∙ sym (ap is_some (at_remove o b k)) ∙ sym (ap (λ l. is_some (get (remove b k) l)) is.0)
    | inr other ↦ ap is_some (beside_remove o a k q other.0) ∙ same q ∙ sym (ap is_some (beside_remove o b k q other.0))
  ]

  -- such maps have as many entries
  same_len : (n : ℕ) (a : FinMap R V) (b : FinMap R W) → len a ≡ n → HaveSameKeys a b → len a ≡ len b
  same_len zero a b e same =
      e ∙ sym (ap len (same_map o.total o.exact b empty
      (λ k. none_of (get b k) (sym (same k) ∙ ap is_some (ap (λ x. get x k) (empty_of_len a e) ∙ get-empty R k))
      ∙ sym (get-empty R k))) ∙ len-empty R W)
  same_len (suc n) a b e same =
      let at = first_key o a n e in
      let in_b : contains_key b at.0 ≡ true = sym (same at.0) ∙ at.1 in
      let less_a : len a - 1 ≡ len (remove a at.0) = ap (λ t. cond t (len a - 1) (len a)) (sym at.1)
      ∙ sym (len-remove o.total a at.0) in
      let less_b : len b - 1 ≡ len (remove b at.0) = ap (λ t. cond t (len b - 1) (len b)) (sym in_b)
      ∙ sym (len-remove o.total b at.0) in
      let fewer : len (remove a at.0) ≡ n = omega (arith, less_a, e) in
      let rest = same_len n (remove a at.0) (remove b at.0) fewer (same_keys_removed a b same at.0) in
      one_more (len a) (len (remove a at.0)) less_a (some_there a at.0 at.1) ∙ ap suc rest
      ∙ sym (one_more (len b) (len (remove b at.0)) less_b (some_there b at.0 in_b))

  same_keys_kept : (a : FinMap R V) (b : FinMap R W) → HaveSameKeys a b → (keep : K → Bool)
      → HaveSameKeys (retain_keys a keep) (retain_keys b keep)
  same_keys_kept a b same keep q = elim (true_or_false (keep q)) [
    | inl yes_kept ↦ ap is_some (kept o a keep q yes_kept) ∙ same q ∙ sym (ap is_some (kept o b keep q yes_kept))
    | inr gone ↦ ap is_some (let_go o a keep q gone) ∙ sym (ap is_some (let_go o b keep q gone))
  ]

  pub same_count : (a : FinMap R V) (b : FinMap R W) → HaveSameKeys a b → (keep : K → Bool)
      → len (retain_keys a keep) ≡ len (retain_keys b keep)
  same_count a b same keep = same_len (len (retain_keys a keep)) (retain_keys a keep) (retain_keys b keep) refl
      (same_keys_kept a b same keep)

module _ {K V : Type 0} {R : K → K → Ordering} {part : Row → Row} {row_of : K → V → Row} {test : K → Row → Bool}
    (it : IsPart R part row_of test) where
  -- a table has as many rows as its map has entries
  counted : (xs : List Row) → IsTable xs → (m : FinMap R V) → Holds part row_of xs m → length xs ≡ len m
  counted [] up m h = sym (ap len
      (same_map it.order.total it.order.exact m empty (λ k. none k (get m k) refl ∙ sym (get-empty R k)))
      ∙ len-empty R V)
    where
      none : (k : K) (o : Option V) → get m k ≡ o → get m k ≡ None
      none k None is = is
      none k (Some v) is = absurd (h.complete k v is).1
  counted (x ∷ xs) up m h =
      let at = h.sound x (inl refl) in
      let other : (r : Row) → Has xs r → r ≡ x
      → ⊥ = λ r there same. never_same x r
      (ap is_eq (all_has (λ y. value_cmp (rowid x) (rowid y) ≡ Less) xs r up.0 there)) (sym same) in
      let rest : Holds part row_of xs (remove m at.0) = record {
        sound = λ r there.
            let e = h.sound r (inr there) in (
              e.0,
              e.1,
              beside_remove it.order m at.0 e.0
                  (λ same. other r there (h.apart r x (inr there) (inl refl) at.0 e.1 at.1
                  (subst (λ l. part r ≡ row_of l e.1) same e.3) at.3)) ∙ e.2,
              e.3,
            );
        complete = λ l v is.
            let a = after_remove it.order m at.0 l v is in
            let r = h.complete l v a.1 in
            elim r.1 as (λ _. (s : Row) × Has xs s × (part s ≡ row_of l v)) [
              | inl same ↦ absurd (a.0 (it.key_is l at.0 v at.1 (sym r.2 ∙ ap part same ∙ at.3)))
              | inr there ↦ (r.0, there, r.2)
            ];
        apart = λ r s p q. h.apart r s (inr p) (inr q);
      } in
      let there : contains_key m at.0 ≡ true = ap is_some at.2 in
      let fewer : len m - 1 ≡ length xs = ap (λ b. cond b (len m - 1) (len m)) (sym there)
      ∙ sym (len-remove it.order.total m at.0) ∙ sym (counted xs up.1 (remove m at.0) rest) in
      sym (one_more (len m) (length xs) fewer (some_there m at.0 there))

  pub count_is : (rows : List Row) (m : FinMap R V) → Holds part row_of rows m → IsTable rows
      → (keep : K → Bool) (tells : Row → Bool)
      → ((r : Row) (l : K) (v : V) → part r ≡ row_of l v → tells r ≡ keep l)
      → length (filter tells rows) ≡ len (retain_keys m keep)
  count_is rows m h up keep tells so =
      let same : without (λ r. not (tells r)) rows ≡ filter tells rows =
      ap (λ f. filter f rows) (λ i r. not_not (tells r) i) in
      counted (filter tells rows) (rises_kept tells rows up) (retain_keys m keep)
      (subst (λ xs. Holds part row_of xs (retain_keys m keep)) same
      (retains it rows m h (λ r. not (tells r)) keep (λ r l v is. not_not (tells r) ∙ so r l v is)))
