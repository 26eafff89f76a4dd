-- What holds of each row of a table, and of each row that a LEFT JOIN finds, in the words of the map that the table
-- holds.
use Rattle.std.proofs.Common.{◌≡◌, ◌↔◌, ◌⊎◌, inl, inr, Bool, true, List, [], ◌∷◌, filter, drop, Option, Some, None}
use Rattle.std.proofs.Common.{refl, sym, ap, subst, ◌∙◌}
use Rattle.std.specs.Prelude.{⊤}
use Rattle.std.specs.declared.cmp.Ordering.{Ordering}
use Rattle.std.specs.FinMap.{FinMap, get}
use Rattle.sqlite.specs.Order.{Row}
use Rattle.sqlite.specs.declared.types.Value.{Value}
use Rattle.sql_forms.specs.Query.{or_nulls}
use Rattle.sql_forms.specs.Lists.{Has}
use Rattle.sql_forms.proofs.ListLemmas.{has_filtered, has_kept}
use Rattle.sql_forms.specs.Maps.{Holds}
use Rattle.mm_definitions.specs.Parts.{Each}
use Rattle.mm_store.specs.Rows.{whole, past_rowid, past_id}

of_nothing : (xs : List Row) → xs ≡ [] → Has (or_nulls xs) []
of_nothing [] e = inl refl
of_nothing (x ∷ xs) e = absurd cc

of_some : (xs : List Row) (r : Row) → Has xs r → Has (or_nulls xs) r
of_some [] r h = absurd h
of_some (x ∷ xs) r h = h

nothing_has : (xs : List Row) → ((r : Row) → Has xs r → ⊥) → xs ≡ []
nothing_has [] none = refl
nothing_has (x ∷ xs) none = absurd (none x (inl refl))

from_nulls : (xs : List Row) (r : Row) → Has (or_nulls xs) r → Has xs r ⊎ ((xs ≡ []) × (r ≡ []))
from_nulls [] r (inl e) = inr (refl, e)
from_nulls [] r (inr h) = absurd h
from_nulls (x ∷ xs) r h = inl h

-- a LEFT JOIN gives a row in any case
pub some_joined : (xs : List Row) → (r : Row) × Has (or_nulls xs) r
some_joined [] = ([], inl refl)
some_joined (x ∷ xs) = (x, inl refl)

-- what stands before the values of an entry: nothing, a rowid, or a rowid and an id
abbrev pub as_whole : ⊤ → Row → Row
as_whole x r = r

abbrev pub after_rowid : Value → Row → Row
after_rowid x r = x ∷ r

abbrev pub after_id : Value × Value → Row → Row
after_id x r = x.0 ∷ x.1 ∷ r

-- each row stands for an entry, and each entry for a row
pub record Covers {X K V : Type 0} {R : K → K → Ordering} (full : X → Row → Row) (row_of : K → V → Row)
    (rows : List Row) (m : FinMap R V) : Type 0 where
  pub sound : (r : Row) → Has rows r → (k : K) × (v : V) × (x : X) × (get m k ≡ Some v) × (r ≡ full x (row_of k v))
  pub complete : (k : K) (v : V) → get m k ≡ Some v → (x : X) × Has rows (full x (row_of k v))

-- a row of an entry is not the empty row
abbrev pub IsFilled : {K V : Type 0} → (K → V → Row) → Type 0
IsFilled {K} {V} row_of = (k : K) (v : V) → (a : Value) × (more : Row) × (row_of k v ≡ a ∷ more)

hidden : (r : Row) (a : Value) (more : Row) → drop 1 r ≡ a ∷ more → (x : Value) × (r ≡ x ∷ a ∷ more)
hidden [] a more e = absurd cc
hidden (x ∷ r) a more e = (x, ap (λ l. x ∷ l) e)

hidden_two : (r : Row) (a : Value) (more : Row) → drop 2 r ≡ a ∷ more → (x : Value × Value) × (r ≡ x.0 ∷ x.1 ∷ a ∷ more)
hidden_two [] a more e = absurd cc
hidden_two (x ∷ []) a more e = absurd cc
hidden_two (x ∷ y ∷ r) a more e = ((x, y), ap (λ l. x ∷ y ∷ l) e)

module _ {K V : Type 0} {R : K → K → Ordering} {row_of : K → V → Row} {rows : List Row} {m : FinMap R V} where
  pub covered_whole : Holds whole row_of rows m → Covers as_whole row_of rows m
  covered_whole h = record {
    sound = λ r there. let e = h.sound r there in (e.0, e.1, tt, e.2, e.3);
    complete = λ k v is. let r = h.complete k v is in (tt, subst (Has rows) r.2 r.1);
  }

  pub covered : IsFilled row_of → Holds past_rowid row_of rows m → Covers after_rowid row_of rows m
  covered filled h = record {
    sound = λ r there. let e = h.sound r there in let it = headed r e.0 e.1 e.3 in (e.0, e.1, it.0, e.2, it.1);
    complete = λ k v is. let r = h.complete k v is in let it = headed r.0 k v r.2 in (it.0, subst (Has rows) it.1 r.1);
  }
    where
      headed : (r : Row) (k : K) (v : V) → drop 1 r ≡ row_of k v → (x : Value) × (r ≡ x ∷ row_of k v)
      headed r k v e =
          let f = filled k v in
          let it = hidden r f.0 f.1 (e ∙ f.2) in
          (it.0, it.1 ∙ ap (λ l. it.0 ∷ l) (sym f.2))

  pub covered_id : IsFilled row_of → Holds past_id row_of rows m → Covers after_id row_of rows m
  covered_id filled h = record {
    sound = λ r there. let e = h.sound r there in let it = headed r e.0 e.1 e.3 in (e.0, e.1, it.0, e.2, it.1);
    complete = λ k v is. let r = h.complete k v is in let it = headed r.0 k v r.2 in (it.0, subst (Has rows) it.1 r.1);
  }
    where
      headed : (r : Row) (k : K) (v : V) → drop 2 r ≡ row_of k v → (x : Value × Value) × (r ≡ x.0 ∷ x.1 ∷ row_of k v)
      headed r k v e =
          let f = filled k v in
          let it = hidden_two r f.0 f.1 (e ∙ f.2) in
          (it.0, it.1 ∙ ap (λ l. it.0.0 ∷ it.0.1 ∷ l) (sym f.2))

module _ {X K V : Type 0} {R : K → K → Ordering} (full : X → Row → Row) (row_of : K → V → Row) (rows : List Row)
    (m : FinMap R V) (h : Covers full row_of rows m) where
  -- of each row, and of each entry
  pub each_row : (Q : Row → Type 0) (P : K → V → Type 0) → ((k : K) (v : V) (x : X) → Q (full x (row_of k v)) ↔ P k v)
      → ((r : Row) → Has rows r → Q r) ↔ Each m P
  each_row Q P same = (
    (λ all k v is. let e = h.complete k v is in (same k v e.0).0 (all (full e.0 (row_of k v)) e.1)),
    (λ each r there. let e = h.sound r there in subst Q (sym e.4) ((same e.0 e.1 e.2).1 (each e.0 e.1 e.3))),
  )

  -- the condition of a LEFT JOIN finds the rows of this key
  abbrev pub Finds : (Row → Bool) → K → Type 0
  Finds test k = (l : K) (v : V) (x : X) → (test (full x (row_of l v)) ≡ true) ↔ (l ≡ k)

  module _ (test : Row → Bool) (k : K) (finds : Finds test k) where
    -- a row that is found is that of the key's entry
    found : (r : Row) → Has (filter test rows) r → (v : V) × (x : X) × (get m k ≡ Some v) × (r ≡ full x (row_of k v))
    found r there =
        let was = has_filtered test rows r there in
        let e = h.sound r was.0 in
        let is : e.0 ≡ k = (finds e.0 e.1 e.2).0 (ap test (sym e.4) ∙ was.1) in
        (e.1, e.2, ap (get m) (sym is) ∙ e.3, e.4 ∙ ap (λ l. full e.2 (row_of l e.1)) is)

    none_found : get m k ≡ None → filter test rows ≡ []
    none_found none = nothing_has (filter test rows) (λ r there. let f = found r there in let e : Some f.0 ≡ None =
        sym f.2 ∙ none in cc)

    entry_found : (v : V) → get m k ≡ Some v → (x : X) × Has (filter test rows) (full x (row_of k v))
    entry_found v is =
        let e = h.complete k v is in
        (e.0, has_kept test rows (full e.0 (row_of k v)) e.1 ((finds k v e.0).1 refl))

    -- of each row that the join gives, and of what the map has at the key
    pub joined : (Q : Row → Type 0) (P : Option V → Type 0) → (Q [] ↔ P None)
        → ((v : V) (x : X) → Q (full x (row_of k v)) ↔ P (Some v))
        → ((r : Row) → Has (or_nulls (filter test rows)) r → Q r) ↔ P (get m k)
    joined Q P nothing something = (
      λ all. to (get m k) refl all,
      λ p r there. from p r
          (from_nulls (filter test rows) r there),
    )
      where
        to : (o : Option V) → get m k ≡ o → ((r : Row) → Has (or_nulls (filter test rows)) r → Q r) → P (get m k)
        to None is all = subst P (sym is) (nothing.0 (all [] (of_nothing (filter test rows) (none_found is))))
        to (Some v) is all = let e = entry_found v is in subst P (sym is)
            ((something v e.0).0 (all (full e.0 (row_of k v)) (of_some (filter test rows) _ e.1)))

        at_none : (o : Option V) → get m k ≡ o → filter test rows ≡ [] → P (get m k) → Q []
        at_none None is none p = nothing.1 (subst P is p)
        at_none (Some v) is none p = let e = entry_found v is in absurd
            (subst (λ l. Has l (full e.0 (row_of k v))) none e.1)

        from : P (get m k) → (r : Row) → (Has (filter test rows) r ⊎ ((filter test rows ≡ []) × (r ≡ []))) → Q r
        from p r (inl there) = let f = found r there in subst Q (sym f.3) ((something f.0 f.1).1 (subst P f.2 p))
        from p r (inr none) = subst Q (sym none.1) (at_none (get m k) refl none.0 p)
