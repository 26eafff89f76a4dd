-- A SELECT over one table with ORDER BY one column.
use Rattle.std.proofs.Common.{◌≡◌, inl, ℕ, ◌+◌, ◌<◌, pos, false, List, [], ◌∷◌, filter, map, take, get_or, slice_get}
use Rattle.std.proofs.Common.{Option, refl, sym, ap, subst, subst₂, ◌∙◌, arith, Ordering}
use Rattle.std.specs.Prelude.{IsSorted}
use Rattle.std.specs.List.Sorted.{IsPermutation}
use Rattle.std.specs.Ordering.{is_lt}
use Rattle.std.proofs.lemmas.List.{length-map}
use Rattle.std.proofs.Math.ListN.{get_or-map}
use Rattle.std.proofs.lemmas.List.Sorted.{sorted_far, ranks_by, length_permutation, IsPermutation-sym}
use Rattle.sqlite.specs.declared.types.Value.TheVariants.{Int}
use Rattle.sqlite_value.specs.declared.keys.Key.{Key}
use Rattle.sqlite_value.specs.Keys.{by_key}
use Rattle.sqlite_value.proofs.KeyLemmas.{by_key_total}
use Rattle.sqlite_value.proofs.OrderLemmas.{then-Equal}
use Rattle.sqlite.specs.Order.{Row}
use Rattle.sqlite.specs.Term.{Term, lit, eval}
use Rattle.sqlite.specs.Query.{Query, Output, output, output_cmp, page}
use Rattle.sqlite.specs.Schema.{Schema}
use Rattle.sqlite_trees.proofs.ListLemmas.{pull_back, map-map}
use Rattle.sqlite_rules.specs.Lists.{Has}
use Rattle.sqlite_rules.proofs.ListLemmas.{has_filtered, has_kept}
use Rattle.sqlite.specs.State.{State, IsUnchanged}
use Rattle.sql_forms.specs.Forms.{over}
use Rattle.sql_forms.specs.Tables.{tables_of, passes, FindsFirst, IsFirstShown}
use Rattle.sql_forms.proofs.Lists.{has_place, has_permuted}
use Rattle.sql_forms.proofs.Queries.{AnswersOver, outputs}
use Rattle.sql_forms.proofs.Selects.{IsSelect, selects, shows, nothing_left}

-- the order of the rows by one column
abbrev pub by_column : Term → Key → Row → Row → Row → Ordering
by_column t k params a b = by_key k (eval t (params ∷ a ∷ [])) (eval t (params ∷ b ∷ []))

module _ (tree : ℕ) (terms project : List Term) (t : Term) (k : Key) (limit : Term) (rows shown : List Row)
    (params : Row) where
  abbrev q : Query
  q = over tree terms project ((t, k) ∷ []) limit

  abbrev cmp : Row → Row → Ordering
  cmp = by_column t k params

  abbrev as_output : Row → Output
  as_output r = output q (params ∷ r ∷ [])

  sorted_by : (xs : List Row) → IsSorted (output_cmp q) (map as_output xs) → IsSorted cmp xs
  sorted_by xs up n d low high =
      subst (λ o. is_lt o ≡ false) (then-Equal (cmp (get_or xs (n + 1) d) (get_or xs n d)))
      (subst₂ (λ (a b : Output). is_lt (output_cmp q a b) ≡ false) (get_or-map as_output xs (n + 1) d)
      (get_or-map as_output xs n d) (up n (as_output d) low
      (subst (λ l. n + 1 < l) (sym (length-map xs as_output)) high)))

  -- the rows in order, of which the answer shows some
  listed : AnswersOver q rows shown params → (xs : List Row) × IsPermutation rows xs × IsSorted cmp xs
      × (shown ≡ page q params (map (shows project params) xs))
  listed a =
      let pulled = pull_back as_output (outputs q params rows) a.ordered a.same rows refl in (
        pulled.0,
        pulled.1,
        sorted_by pulled.0 (subst (IsSorted (output_cmp q)) pulled.2 a.sorted),
        a.shows ∙ ap (λ os. page q params (map (λ (o : Output). o.1) os)) pulled.2
            ∙ ap (page q params) (map-map (λ (o : Output). o.1) as_output pulled.0),
      )

  first_is_least : (x : Row) (xs : List Row) → IsSorted cmp (x ∷ xs) → (y : Row) → Has (x ∷ xs) y
      → is_lt (cmp y x) ≡ false
  first_is_least x xs up y h =
      let it = has_place (x ∷ xs) y h in
      let far = sorted_far (λ a b. is_lt (cmp a b)) (ranks_by (by_key_total k) (λ r. eval t (params ∷ r ∷ []))) (x ∷ xs)
      up 0 it.0 x (omega arith) it.1 in
      subst (λ z. is_lt (cmp z x) ≡ false) (it.2 x) far

module _ (schema : Schema) (sql : List ℕ) (tree : ℕ) (terms project : List Term) (t : Term) (k : Key)
    (names : List (List ℕ)) (old new : State) (has : old.now.schema ≡ schema)
    (params given : Row) (same : given ≡ params) where
  first_among : (table xs : List Row) → IsPermutation (filter (passes terms params) table) xs
      → IsSorted (by_column t k params) xs
      → FindsFirst (passes terms params) (by_column t k params) (shows project params) table
      (slice_get (take 1 (map (shows project params) xs)) 0)
  first_among table [] here up = nothing_left (passes terms params) table (sym (length_permutation _ _ here))
  first_among table (x ∷ xs) here up =
      let was = has_filtered (passes terms params) table x (has_permuted _ _ x here (inl refl)) in (
        x,
        was.0,
        was.1,
        refl,
        λ y there yes_y. first_is_least tree terms project t k (lit (Int (pos 1))) table [] params x xs up y
            (has_permuted _ _ y (IsPermutation-sym _ _ here) (has_kept (passes terms params) table y there yes_y)),
      )

  -- LIMIT 1
  pub selects_first : IsSelect schema sql tree (over tree terms project ((t, k) ∷ []) (lit (Int (pos 1)))) names
      → (first : Option Row)
      → IsFirstShown sql given old new first
      → IsUnchanged old new × FindsFirst (passes terms params) (by_column t k params) (shows project params)
      (tables_of schema old.now.trees tree) first
  selects_first it first shown =
      let table = tables_of schema old.now.trees tree in
      let read = selects schema sql tree terms project ((t, k) ∷ []) (lit (Int (pos 1))) names it old new has params
      given same shown.0 shown.1 in
      let all = listed tree terms project t k (lit (Int (pos 1))) (filter (passes terms params) table) shown.0 params
      read.0 in (
        read.1,
        subst (FindsFirst (passes terms params) (by_column t k params) (shows project params) table)
            (sym (shown.2 ∙ ap (λ xs. slice_get xs 0) all.3)) (first_among table all.0 all.1 all.2),
      )
