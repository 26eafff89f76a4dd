-- A part of a package against the rows of its table: look up, put, remove and change by the key.
use Rattle.std.proofs.Common.{◌≡◌, Bool, true, false, not, List, [], Option, Some, None, is_some, refl, sym, ap, ◌∙◌}
use Rattle.std.specs.declared.cmp.Ordering.{Ordering}
use Rattle.std.specs.Ordering.{eq_by_cmp}
use Rattle.std.specs.List.{list_any}
use Rattle.std.specs.FinMap.{FinMap, get, contains_key, insert, remove, retain_keys, same_map, empty, get-empty}
use Rattle.sqlite.specs.Order.{Row}
use Rattle.sqlite.specs.Tree.{put_row}
use Rattle.sqlite.specs.Edit.{is_taken}
use Rattle.sql_forms.proofs.ListLemmas.{some_has, has_filtered, has_kept}
use Rattle.sql_forms.specs.Tables.{FindsRow, without, with_changed}
use Rattle.sql_forms.specs.Maps.{Holds}
use Rattle.sql_forms.proofs.Maps as maps
use Rattle.mm_definitions.proofs.Parts.{IsKeyOrder, not_none, kept, after_retain}

-- The rows of a table are the entries of a map, and the test finds the row of a key.
pub record IsPart {K V : Type 0} (R : K → K → Ordering) (part : Row → Row) (row_of : K → V → Row)
    (test : K → Row → Bool) : Type 0 where
  pub order : IsKeyOrder R
  pub key_is : (k l : K) (v w : V) → row_of k v ≡ row_of l w → k ≡ l
  pub value_is : (k l : K) (v w : V) → row_of k v ≡ row_of l w → v ≡ w
  pub decides : (k : K) (r : Row) (l : K) (v : V) → part r ≡ row_of l v → test k r ≡ eq_by_cmp R l k

module _ {K V : Type 0} {R : K → K → Ordering} {part : Row → Row} {row_of : K → V → Row} {test : K → Row → Bool}
    (it : IsPart R part row_of test) where
  -- the same rows hold at most one map
  carried : (rows : List Row) (m n : FinMap R V) → Holds part row_of rows m → Holds part row_of rows n → (k : K) (v : V)
      → get m k ≡ Some v → get n k ≡ Some v
  carried rows m n h j k v is =
      let r = h.complete k v is in
      let at = j.sound r.0 r.1 in
      let same = sym at.3 ∙ r.2 in
      ap (get n) (sym (it.key_is at.0 k at.1 v same)) ∙ at.2 ∙ ap Some (it.value_is at.0 k at.1 v same)

  pub one_map : (rows : List Row) (m n : FinMap R V) → Holds part row_of rows m → Holds part row_of rows n → m ≡ n
  one_map rows m n h j = same_map it.order.total it.order.exact m n (λ k. at k (get m k) (get n k) refl refl)
    where
      at : (k : K) (a b : Option V) → get m k ≡ a → get n k ≡ b → get m k ≡ get n k
      at k None None p q = p ∙ sym q
      at k None (Some w) p q = absurd (not_none (carried rows n m j h k w q) p)
      at k (Some v) b p q = p ∙ sym (carried rows m n h j k v p)

  pub holds_none : (rows : List Row) → rows ≡ [] → Holds part row_of rows (empty {X = V} {R = R})
  holds_none rows none = rw none (record {
    sound = λ r there. absurd there;
    complete = λ k v is. absurd (let e : None ≡ Some v = sym (get-empty R k) ∙ is in cc);
    apart = λ r s there. absurd there;
  })

  module _ (rows : List Row) (m : FinMap R V) (h : Holds part row_of rows m) where
    module _ (k : K) where
      -- ---- look up

      pub found : list_any (test k) rows ≡ contains_key m k
      found = go (list_any (test k) rows) refl
        where
          go : (b : Bool) → list_any (test k) rows ≡ b → b ≡ contains_key m k
          go true is = let r = some_has (test k) rows is in let at = maps.passes_at it.order.total it.order.exact part
              row_of it.key_is rows m h k (test k) (it.decides k) r.0 r.1 r.2 in sym (ap is_some at.1)
          go false is = sym (ap is_some (maps.none_at it.order.total it.order.exact part row_of it.key_is rows m h k
              (test k) (it.decides k) is))

      pub finds_none : (show : Row → Row) → FindsRow (test k) show rows None → get m k ≡ None
      finds_none show none = maps.none_at it.order.total it.order.exact part row_of it.key_is rows m h k (test k)
          (it.decides k) none

      pub finds_some : (show : Row → Row) (x : Row) → FindsRow (test k) show rows (Some x)
          → (v : V) × (get m k ≡ Some v) × (r : Row) × (part r ≡ row_of k v) × (x ≡ show r)
      finds_some show x some =
          let at = maps.passes_at it.order.total it.order.exact part row_of it.key_is rows m h k (test k) (it.decides k)
          some.0 some.1 some.2 in
          (at.0, at.1, some.0, at.2, some.3)

      -- ---- put, remove and change

      pub puts : (v : V) (new : Row) → get m k ≡ None → part new ≡ row_of k v → is_taken rows new ≡ false
          → Holds part row_of (put_row new rows) (insert m k v)
      puts = maps.inserts it.order.total it.order.exact part row_of it.key_is rows m h k

      pub removes : Holds part row_of (without (test k) rows) (remove m k)
      removes = maps.removes it.order.total it.order.exact part row_of it.key_is rows m h k (test k) (it.decides k)

      -- the same by another test that finds the row
      pub removes_where : (out : Row → Bool)
          → ((r : Row) (l : K) (v : V) → part r ≡ row_of l v → out r ≡ eq_by_cmp R l k)
          → Holds part row_of (without out rows) (remove m k)
      removes_where out tells = maps.removes it.order.total it.order.exact part row_of it.key_is rows m h k out tells

      pub changes : (change : Row → Row) (v w : V) → get m k ≡ Some v
          → ((r : Row) → part r ≡ row_of k v → part (change r) ≡ row_of k w)
          → Holds part row_of (with_changed (test k) change rows) (insert m k w)
      changes change v w stands changes_to = maps.changes it.order.total it.order.exact part row_of it.key_is rows m h k
          (test k) (it.decides k) change v w stands changes_to

    -- the rows whose keys don't pass are gone
    pub retains : (out : Row → Bool) (keep : K → Bool)
        → ((r : Row) (l : K) (v : V) → part r ≡ row_of l v → not (out r) ≡ keep l)
        → Holds part row_of (without out rows) (retain_keys m keep)
    retains out keep tells = record {
      sound = λ r there.
          let was = has_filtered (λ x. not (out x)) rows r there in
          let at = h.sound r was.0 in
          (at.0, at.1, kept it.order m keep at.0 (sym (tells r at.0 at.1 at.3) ∙ was.1) ∙ at.2, at.3);
      complete = λ l v is.
          let a = after_retain it.order m keep l v is in
          let r = h.complete l v a.1 in
          (r.0, has_kept (λ x. not (out x)) rows r.0 r.1 (tells r.0 l v r.2 ∙ a.0), r.2);
      apart = λ r s p q. h.apart r s (has_filtered (λ x. not (out x)) rows r p).0
          (has_filtered (λ x. not (out x)) rows s q).0;
    }
