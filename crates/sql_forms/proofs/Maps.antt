-- What the edits of a table's rows are of the map that they stand for.
use Rattle.std.proofs.Common.{◌≡◌, ◌⊎◌, inl, inr, Bool, true, false, not, cond, List, [], ◌∷◌, Option, Some, None, refl}
use Rattle.std.proofs.Common.{sym, ap, subst, ◌∙◌, Ordering}
use Rattle.std.specs.Ordering.{is_eq, eq_by_cmp}
use Rattle.std.specs.List.{list_any}
use Rattle.std.specs.Cmp.{IsTotalOrder, Equal-is}
use Rattle.std.specs.FinMap.{FinMap, get, insert, remove, get-insert, get-remove, IsAntisymmetric}
use Rattle.std.proofs.lemmas.Bool.{cases_Bool, and_from, not-true, false_from_ne_true, both_ways}
use Rattle.std.proofs.lemmas.Cmp.{tied_itself}
use Rattle.sqlite.specs.Order.{Row}
use Rattle.sqlite.specs.Tree.{put_row}
use Rattle.sqlite.specs.Edit.{is_taken}
use Rattle.sqlite_rules.specs.Lists.{Has}
use Rattle.sqlite_rules.proofs.ListLemmas.{some_from, has_filtered, has_kept}
use Rattle.sqlite_rules.proofs.ProbeLemmas.{has_mapped, mapped_has}
use Rattle.sqlite_rules.proofs.TableLemmas.{has_put, put_has, put_all_keeps}
use Rattle.sql_forms.specs.Tables.{without, with_changed, FindsRow}
use Rattle.sql_forms.specs.Maps.{Holds}

module _ {K V : Type 0} {R : K → K → Ordering} (total : IsTotalOrder R) (same : IsAntisymmetric R) (part : Row → Row)
    (row_of : K → V → Row)
    (key_is : (k l : K) (v w : V) → row_of k v ≡ row_of l w → k ≡ l) where
  -- the test finds the rows with this key
  abbrev pub Decides : (Row → Bool) → K → Type 0
  Decides test k = (r : Row) (l : K) (v : V) → part r ≡ row_of l v → test r ≡ eq_by_cmp R l k

  tied : (l k : K) → eq_by_cmp R l k ≡ true → l ≡ k
  tied l k h = same l k ((Equal-is _).0 h)

  itself : (k : K) → eq_by_cmp R k k ≡ true
  itself k = ap is_eq (tied_itself total k)

  module _ (rows : List Row) (m : FinMap R V) (h : Holds part row_of rows m) (k : K) where
    module _ (test : Row → Bool) (decides : Decides test k) where
      -- a row that passes has the value of the key
      pub passes_at : (r : Row) → Has rows r → test r ≡ true → (v : V) × (get m k ≡ Some v) × (part r ≡ row_of k v)
      passes_at r here yes_r =
          let it = h.sound r here in
          let is : it.0 ≡ k = tied it.0 k (sym (decides r it.0 it.1 it.3) ∙ yes_r) in
          (it.1, subst (λ x. get m x ≡ Some it.1) is it.2, subst (λ x. part r ≡ row_of x it.1) is it.3)

      pub none_at : list_any test rows ≡ false → get m k ≡ None
      none_at none = go (get m k) refl
        where
          go : (o : Option V) → get m k ≡ o → o ≡ None
          go None is = refl
          go (Some v) is =
              let r = h.complete k v is in
              absurd (both_ways _ none (some_from test rows r.0 r.1 (decides r.0 k v r.2 ∙ itself k)))

      -- SELECT by the key
      pub looks_up : (show : Row → Row) (o : Option Row) → FindsRow test show rows o
          → ((o ≡ None) × (get m k ≡ None))
          ⊎ ((r : Row) × (v : V) × (o ≡ Some (show r)) × (get m k ≡ Some v) × (part r ≡ row_of k v))
      looks_up show None found = inl (refl, none_at found)
      looks_up show (Some x) found = let it = passes_at found.0 found.1 found.2 in inr
          (found.0, it.0, ap Some found.3, it.1, it.2)

      -- DELETE by the key
      pub removes : Holds part row_of (without test rows) (remove m k)
      removes = record {
        sound = λ r there.
            let was = has_filtered (λ x. not (test x)) rows r there in
            let it = h.sound r was.0 in
            let other : eq_by_cmp R it.0 k ≡ false = sym (decides r it.0 it.1 it.3) ∙ not-true _ was.1 in
            (it.0, it.1, get-remove total m k it.0 ∙ ap (λ b. cond b None (get m it.0)) other ∙ it.2, it.3);
        complete = λ l v is. elim (cases_Bool (eq_by_cmp R l k)) [
          | inl tie ↦ absurd (let e = sym (get-remove total m k l ∙ ap (λ b. cond b None (get m l)) tie) ∙ is in cc)
          | inr other ↦
              let r = h.complete l v (sym (get-remove total m k l ∙ ap (λ b. cond b None (get m l)) other) ∙ is) in
              (r.0, has_kept (λ x. not (test x)) rows r.0 r.1 (ap not (decides r.0 l v r.2 ∙ other)), r.2)
        ];
        apart = λ r s p q. h.apart r s (has_filtered (λ x. not (test x)) rows r p).0
            (has_filtered (λ x. not (test x)) rows s q).0;
      }

    -- INSERT under a key that is free
    module _ (v : V) (new : Row) (free : get m k ≡ None) (is_new : part new ≡ row_of k v)
        (fresh : is_taken rows new ≡ false) where
      other_key : (l : K) (w : V) → get m l ≡ Some w → eq_by_cmp R l k ≡ false
      other_key l w is = false_from_ne_true _ (λ tie. let e = sym free ∙ ap (get m) (sym (tied l k tie)) ∙ is in cc)

      never_here : (s : Row) → Has rows s → (l : K) (w z : V) → part new ≡ row_of l w → part s ≡ row_of l z → ⊥
      never_here s there l w z p q =
          let it = h.sound s there in
          let key : it.0 ≡ k = key_is it.0 l it.1 z (sym it.3 ∙ q) ∙ key_is l k w v (sym p ∙ is_new) in
          let e = sym free ∙ ap (get m) (sym key) ∙ it.2 in cc

      pub inserts : Holds part row_of (put_row new rows) (insert m k v)
      inserts = record {
        sound = λ r there. elim (put_has new rows r there) [
          | inl is ↦ (
            k,
            v,
            get-insert total m k v k ∙ ap (λ b. cond b (Some v) (get m k)) (itself k),
            ap part is
                ∙ is_new,
          )
          | inr was ↦ let it = h.sound r was in (
            it.0,
            it.1,
            get-insert total m k v it.0 ∙ ap (λ b. cond b (Some v) (get m it.0)) (other_key it.0 it.1 it.2)
                ∙ it.2,
            it.3,
          )
        ];
        complete = λ l w is. elim (cases_Bool (eq_by_cmp R l k)) [
          | inl tie ↦
              let e = sym (get-insert total m k v l ∙ ap (λ b. cond b (Some v) (get m l)) tie) ∙ is in
              let value : v ≡ w = cc in
              (new, has_put new rows, rw (tied l k tie, ← value) is_new)
          | inr other ↦
              let r = h.complete l w (sym (get-insert total m k v l ∙ ap (λ b. cond b (Some v) (get m l)) other)
              ∙ is) in
              (r.0, put_all_keeps (new ∷ []) rows r.0 (and_from _ _ (ap not fresh) refl) r.1, r.2)
        ];
        apart = λ r s p q l w z a b. elim (put_has new rows r p) [
          | inl r_new ↦ elim (put_has new rows s q) [
            | inl s_new ↦ r_new ∙ sym s_new
            | inr s_old ↦ absurd (never_here s s_old l w z (sym (ap part r_new) ∙ a) b)
          ]
          | inr r_old ↦ elim (put_has new rows s q) [
            | inl s_new ↦ absurd (never_here r r_old l z w (sym (ap part s_new) ∙ b) a)
            | inr s_old ↦ h.apart r s r_old s_old l w z a b
          ]
        ];
      }

    -- UPDATE by the key, which stays
    module _ (test : Row → Bool) (decides : Decides test k) (change : Row → Row) (v w : V)
        (stands : get m k ≡ Some v) (changes_to : (r : Row) → part r ≡ row_of k v → part (change r) ≡ row_of k w) where
      abbrev step : Row → Row
      step r = cond (test r) (change r) r

      -- an entry of the row once it is changed, by whether it was
      entry : (x : Row) → Has rows x → (b : Bool) → test x ≡ b
          → (l : K) × (z u : V) × (get m l ≡ Some u) × (part x ≡ row_of l u) × (part (cond b (change x) x) ≡ row_of l z)
          × (get (insert m k w) l ≡ Some z)
      entry x there true is =
          let it = passes_at test decides x there is in
          let e = sym it.1 ∙ stands in
          let value : it.0 ≡ v = cc in (
            k,
            w,
            it.0,
            it.1,
            it.2,
            changes_to x (it.2 ∙ ap (row_of k) value),
            get-insert total m k w k
                ∙ ap (λ b. cond b (Some w) (get m k)) (itself k),
          )
      entry x there false is =
          let it = h.sound x there in (
            it.0,
            it.1,
            it.1,
            it.2,
            it.3,
            it.3,
            get-insert total m k w it.0 ∙ ap (λ b. cond b (Some w) (get m it.0))
                (sym (decides x it.0 it.1 it.3) ∙ is) ∙ it.2,
          )

      changed_from : (r : Row) → Has (with_changed test change rows) r → (x : Row) × Has rows x × (r ≡ step x)
      changed_from r there = has_mapped step rows r there

      pub changes : Holds part row_of (with_changed test change rows) (insert m k w)
      changes = record {
        sound = λ r there.
            let from = changed_from r there in
            let it = entry from.0 from.1 (test from.0) refl in
            (it.0, it.1, it.6, ap part from.2 ∙ it.5);
        complete = λ l z is. elim (cases_Bool (eq_by_cmp R l k)) [
          | inl tie ↦
              let e = sym (get-insert total m k w l ∙ ap (λ b. cond b (Some w) (get m l)) tie) ∙ is in
              let value : w ≡ z = cc in
              let r = h.complete k v stands in (
                step r.0,
                mapped_has step rows r.0 r.1,
                ap (λ b. part (cond b (change r.0) r.0))
                    (decides r.0 k v r.2 ∙ itself k) ∙ changes_to r.0 r.2 ∙ rw (tied l k tie, ← value) refl,
              )
          | inr other ↦
              let r = h.complete l z (sym (get-insert total m k w l ∙ ap (λ b. cond b (Some w) (get m l)) other)
              ∙ is) in (
                step r.0,
                mapped_has step rows r.0 r.1,
                ap (λ b. part (cond b (change r.0) r.0))
                    (decides r.0 l z r.2 ∙ other) ∙ r.2,
              )
        ];
        apart = λ r s p q l y z a b.
            let x = changed_from r p in
            let c = entry x.0 x.1 (test x.0) refl in
            let x2 = changed_from s q in
            let d = entry x2.0 x2.1 (test x2.0) refl in
            let first : c.0 ≡ l = key_is c.0 l c.1 y (sym c.5 ∙ sym (ap part x.2) ∙ a) in
            let second : d.0 ≡ l = key_is d.0 l d.1 z (sym d.5 ∙ sym (ap part x2.2) ∙ b) in
            let rows_same : x.0 ≡ x2.0 = h.apart x.0 x2.0 x.1 x2.1 l c.2 d.2 (c.4 ∙ ap (λ i. row_of i c.2) first)
            (d.4 ∙ ap (λ i. row_of i d.2) second) in
            x.2 ∙ ap step rows_same ∙ sym x2.2;
      }
