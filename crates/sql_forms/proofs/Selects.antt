-- A SELECT over one table.
use Rattle.std.proofs.Common.{◌≡◌, ℕ, Bool, true, false, List, [], ◌∷◌, filter, map, length, take, pos, slice_get}
use Rattle.std.proofs.Common.{Option, Some, None, is_some, refl, sym, ap, subst, ◌∙◌, arith}
use Rattle.std.specs.List.{list_any}
use Rattle.std.specs.List.Sorted.{IsPermutation}
use Rattle.std.proofs.lemmas.Bool.{false_from_ne_true}
use Rattle.std.proofs.lemmas.List.{length-map}
use Rattle.std.proofs.lemmas.List.Sorted.{length_permutation, IsPermutation-map}
use Rattle.sqlite_value.specs.declared.keys.Key.{Key}
use Rattle.sqlite.specs.declared.types.Value.TheVariants.{Int}
use Rattle.sqlite.specs.Order.{Row}
use Rattle.sqlite.specs.Term.{Term, lit, eval_all}
use Rattle.sqlite.specs.Query.{Query, Output, output}
use Rattle.sqlite.specs.Schema.{Schema}
use Rattle.sqlite.specs.Command.TheVariants.{Select}
use Rattle.sqlite_trees.proofs.ListLemmas.{all-permutation, all-map, map-map}
use Rattle.sqlite_rules.specs.Lists.{Has}
use Rattle.sqlite_rules.proofs.ListLemmas.{all_from, some_has, some_from, has_filtered, has_kept}
use Rattle.sqlite.specs.Effect.{Answers}
use Rattle.sqlite.specs.Listing.{understood, reads_listing}
use Rattle.sqlite.specs.State.{State, Shown, IsUnchanged}
use Rattle.sqlite.proofs.Callers.{IsPlain, command_of}
use Rattle.sql_forms.specs.Forms.{over, all_of, first_of, alone, no_limit}
use Rattle.sql_forms.specs.Tables.{is_table, tables_of, passes, FindsRow, IsFirstShown}
use Rattle.sql_forms.proofs.States.{shows_as}
use Rattle.sql_forms.proofs.Queries.{AnswersOver, answers_over, answers_all}
use Rattle.sql_forms.proofs.Tables.{rows_at}

-- `refl` finds each of these, where the schema and the text are written out
pub record IsSelect (schema : Schema) (sql : List ℕ) (tree : ℕ) (q : Query) (names : List (List ℕ)) : Type 0 where
  pub compiled : command_of (understood schema sql) ≡ Select (alone q) names
  pub plain : IsPlain (understood schema sql)
  pub unlisted : reads_listing schema sql ≡ false
  pub listed : is_table schema tree ≡ true

module _ (schema : Schema) (sql : List ℕ) (tree : ℕ) (terms project : List Term) (order : List (Term × Key))
    (limit : Term) (names : List (List ℕ))
    (it : IsSelect schema sql tree (over tree terms project order limit) names) (old new : State)
    (has : old.now.schema ≡ schema) (params given : Row) (same : given ≡ params) (rows : List Row)
    (shown : Shown sql given old new rows) where
  read : Answers old.now (alone (over tree terms project order limit)) params rows × IsUnchanged old new
  read = shows_as old new sql params schema has _ it.compiled it.plain it.unlisted rows
      (subst (λ p. Shown sql p old new rows) same shown)

  pub selects : AnswersOver (over tree terms project order limit)
      (filter (passes terms params) (tables_of schema old.now.trees tree)) rows params × IsUnchanged old new
  selects = (
    subst (λ table. AnswersOver (over tree terms project order limit) (filter (passes terms params) table) rows params)
        (sym (rows_at schema tree old.now.trees it.listed))
        (answers_over tree terms project old.now.trees params rows order limit read.0.answer),
    read.1,
  )

abbrev pub shows : List Term → Row → Row → Row
shows project params r = eval_all project (params ∷ r ∷ [])

pub nothing_left : (test : Row → Bool) (rows : List Row) → length (filter test rows) ≡ 0 → list_any test rows ≡ false
nothing_left test rows none = false_from_ne_true _
    (λ any. let r = some_has test rows any in past (filter test rows) r.0 (has_kept test rows r.0 r.1 r.2) none)
  where
    past : (xs : List Row) (x : Row) → Has xs x → length xs ≡ 0 → ⊥
    past [] x h none = h
    past (y ∷ xs) x h none = omega arith

finds : (test : Row → Bool) (show : Row → Row) (rows shown : List Row)
    → IsPermutation (map show (filter test rows)) shown
    → FindsRow test show rows (slice_get shown 0)
finds test show rows [] h = nothing_left test rows
    (sym (length-map (filter test rows) show) ∙ sym (length_permutation _ _ h))
finds test show rows (x ∷ more) h =
    (all-permutation (λ y. (r : Row) × Has rows r × (test r ≡ true) × (y ≡ show r)) _ _ h
    (all-map (λ y. (r : Row) × Has rows r × (test r ≡ true) × (y ≡ show r)) show (filter test rows)
    (all_from _ _ (λ r here. let was = has_filtered test rows r here in (r, was.0, was.1, refl))))).0

pub any_found : (test : Row → Bool) (show : Row → Row) (table : List Row) (first : Option Row)
    → FindsRow test show table first
    → is_some first ≡ list_any test table
any_found test show table None h = sym h
any_found test show table (Some x) h = sym (some_from test table h.0 h.1 h.2)

-- with no ORDER BY and no LIMIT
module _ (schema : Schema) (sql : List ℕ) (tree : ℕ) (terms project : List Term) (names : List (List ℕ))
    (it : IsSelect schema sql tree (all_of tree terms project) names) (old new : State) (has : old.now.schema ≡ schema)
    (params given : Row) (same : given ≡ params) where
  pub selects_all : (rows : List Row) → Shown sql given old new rows
      → IsPermutation (map (shows project params) (filter (passes terms params) (tables_of schema old.now.trees tree)))
      rows × IsUnchanged old new
  selects_all rows shown =
      let answer = read schema sql tree terms project [] no_limit names it old new has params given same rows shown in (
        subst (λ table. IsPermutation (map (shows project params) (filter (passes terms params) table)) rows)
            (sym (rows_at schema tree old.now.trees it.listed))
            (answers_all tree terms project old.now.trees params rows answer.0.answer),
        answer.1,
      )

pub first_taken : {X : Type 0} (xs : List X) → slice_get (take 1 xs) 0 ≡ slice_get xs 0
first_taken [] = refl
first_taken (x ∷ xs) = refl

-- with no ORDER BY, and LIMIT 1
module _ (schema : Schema) (sql : List ℕ) (tree : ℕ) (terms project : List Term) (names : List (List ℕ))
    (it : IsSelect schema sql tree (first_of tree terms project) names) (old new : State)
    (has : old.now.schema ≡ schema) (params given : Row) (same : given ≡ params) where
  module _ (first : Option Row) (shown : IsFirstShown sql given old new first) where
    -- one of the rows that pass, if there is one
    pub selects_one : IsUnchanged old new
        × FindsRow (passes terms params) (shows project params) (tables_of schema old.now.trees tree) first
    selects_one =
        let table = tables_of schema old.now.trees tree in
        let q = first_of tree terms project in
        let read = selects schema sql tree terms project [] (lit (Int (pos 1))) names it old new has params given same
        shown.0 shown.1 in
        let all : List Row = map (λ (o : Output). o.1) read.0.ordered in
        let passing : IsPermutation (map (shows project params) (filter (passes terms params) table)) all =
        subst (λ xs. IsPermutation xs all) (map-map (λ (o : Output). o.1) (λ r. output q (params ∷ r ∷ []))
        (filter (passes terms params) table)) (IsPermutation-map (λ (o : Output). o.1) _ _ read.0.same) in
        let first_is : first ≡ slice_get all 0 = shown.2 ∙ ap (λ xs. slice_get xs 0) read.0.shows ∙ first_taken all in (
          read.1,
          subst (FindsRow (passes terms params) (shows project params) table) (sym first_is)
              (finds (passes terms params) (shows project params) table all passing),
        )

    -- whether there is one
    pub selects_any : IsUnchanged old new
        × (is_some first ≡ list_any (passes terms params) (tables_of schema old.now.trees tree))
    selects_any = (
      selects_one.0,
      any_found (passes terms params) (shows project params)
          (tables_of schema old.now.trees tree) first selects_one.1,
    )
