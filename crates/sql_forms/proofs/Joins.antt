-- The answer of a query with no GROUP BY, DISTINCT, LIMIT or OFFSET, and the matches of a LEFT JOIN.
use Rattle.std.proofs.Common.{◌≡◌, inl, inr, ℕ, false, List, [], ◌∷◌, ◌++◌, map, filter, Less, refl, sym, ap, subst}
use Rattle.std.proofs.Common.{◌∙◌}
use Rattle.std.specs.Ordering.{is_gt, ordering_reverse}
use Rattle.std.specs.List.{list_all}
use Rattle.std.proofs.lemmas.List.Sorted.{IsPermutation-sym}
use Rattle.sqlite_value.specs.declared.keys.Key.{Key}
use Rattle.sqlite_value.specs.Order.{Row}
use Rattle.sqlite_trees.specs.Tree.{Trees, IsAscending}
use Rattle.sqlite_sql.specs.Term.{Term, Env, eval_all, holds}
use Rattle.sqlite_sql.specs.Query.{Query, Join, matches, Output, output, output_cmp, IsAnswer}
use Rattle.sqlite_sql.proofs.QueryLemmas.{output_cmp_total}
use Rattle.sqlite_exec.proofs.PartitionLemmas.{ascending_from_sorted}
use Rattle.sqlite_rules.specs.Lists.{Has}
use Rattle.sqlite_rules.proofs.ListLemmas.{has_right, has_either}
use Rattle.sqlite_rules.proofs.ProbeLemmas.{has_mapped, mapped_has}
use Rattle.sql_forms.specs.Forms.{query, no_limit}
use Rattle.sql_forms.proofs.Lists.{has_permuted, map_split, ascends_past}

-- ---- the rows of an answer

module _ (from : Join) (terms project : List Term) (order : List (Term × Key)) (db : Trees) (params : Row)
    (rows : List Row) (a : IsAnswer (query from terms project order no_limit) db params rows) where
  abbrev q : Query
  q = query from terms project order no_limit

  abbrev all : List Env
  all = matches db terms from (params ∷ [])

  kept : a.kept ≡ map (output q) all
  kept = a.distinct ∙ ap (map (output q)) a.grouped

  -- each match is shown
  pub shows : (env : Env) → Has all env → Has rows (eval_all project env)
  shows env h =
      let there : Has a.kept (output q env) = subst (λ l. Has l (output q env)) (sym kept)
      (mapped_has (output q) all env h) in
      subst (λ l. Has l (eval_all project env)) (sym a.shown)
      (mapped_has (λ (o : Output). o.1) a.ordered (output q env)
      (has_permuted a.ordered a.kept (output q env) (IsPermutation-sym _ _ a.same) there))

  -- A row of the answer is a match, and the matches that are less by ORDER BY are shown before it.
  pub shown_at : (front tail : List Row) (row : Row) → rows ≡ front ++ row ∷ tail
      → (env : Env) × Has all env × (row ≡ eval_all project env)
      × ((other : Env) → Has all other → output_cmp q (output q other) (output q env) ≡ Less
      → Has front (eval_all project other))
  shown_at front tail row is =
      let cut = map_split (λ (o : Output). o.1) a.ordered front tail row (sym a.shown ∙ is) in
      let o = cut.1 in
      let placed : Has a.ordered o = subst (λ l. Has l o) (sym cut.3) (has_right cut.0 (o ∷ cut.2) o (inl refl)) in
      let e = has_mapped (output q) all o (subst (λ l. Has l o) kept (has_permuted a.kept a.ordered o a.same placed)) in (
        e.0,
        e.1,
        sym cut.5 ∙ ap (λ (p : Output). p.1) e.2,
        λ other there low.
            let it = output q other in
            let in_order : Has a.ordered it = has_permuted a.ordered a.kept it (IsPermutation-sym _ _ a.same)
            (subst (λ l. Has l it) (sym kept) (mapped_has (output q) all other there)) in
            let less : output_cmp q it o ≡ Less = subst (λ p. output_cmp q it p ≡ Less) (sym e.2) low in
            elim (has_either cut.0 (o ∷ cut.2) it (subst (λ l. Has l it) cut.3 in_order)) [
              | inl before ↦ subst (λ l. Has l it.1) cut.4 (mapped_has (λ (p : Output). p.1) cut.0 it before)
              | inr from ↦ absurd (elim from [
                | inl same ↦ never_below o (subst (λ p. output_cmp q p o ≡ Less) same less)
                | inr after ↦ never_after o it (ascends_past _ cut.0 cut.2 o it
                    (subst (IsAscending _) cut.3 (ascending_from_sorted (output_cmp q) (output_cmp_total q) a.ordered
                    a.sorted)) after) less
              ])
            ],
      )
    where
      never_below : (o : Output) → output_cmp q o o ≡ Less → ⊥
      never_below o h = let e = (output_cmp_total q).antisymm o o ∙ ap ordering_reverse h in cc

      never_after : (o it : Output) → is_gt (output_cmp q o it) ≡ false → output_cmp q it o ≡ Less → ⊥
      never_after o it h less = let e = (output_cmp_total q).antisymm o it
          ∙ ap ordering_reverse less in let k = rw e at h in cc

-- ---- LEFT JOIN

-- the rows that join the row of the first table
abbrev pub joining : Trees → ℕ → List Term → Row → Row → List Row
joining db t on params row = filter (λ r. list_all (holds (params ∷ row ∷ r ∷ [])) on) (db t)
