-- What a query over one table answers.
use Rattle.std.proofs.Common.{◌≡◌, ℕ, ◌^◌, true, false, List, [], ◌∷◌, filter, map, refl, sym, ap, subst, ◌∙◌}
use Rattle.std.specs.Prelude.{nat_le, ◌-◌, if◌then◌else◌, unwrap_or, slice_get, None, IsSorted}
use Rattle.std.specs.List.Sorted.{IsPermutation}
use Rattle.std.proofs.lemmas.List.Sorted.{IsPermutation-map}
use Rattle.sqlite.specs.declared.types.Value.TheVariants.{Null}
use Rattle.sqlite_value.specs.declared.keys.Key.{Key}
use Rattle.sqlite.specs.Order.{Row}
use Rattle.sqlite.specs.Term.{Term, eval_all}
use Rattle.sqlite.specs.Query.{Query, Output, output, output_cmp, page}
use Rattle.sqlite.specs.Program.{overlay, IsProgramAnswer}
use Rattle.sqlite.specs.Tree.{Trees}
use Rattle.sqlite_trees.proofs.ListLemmas.{map-map}
use Rattle.sql_forms.specs.Forms.{over, all_of}
use Rattle.sql_forms.specs.Tables.{passes}
use Rattle.sql_forms.proofs.Lists.{flat_filtered}

-- what the row of the table is sorted by, and what it shows
abbrev pub outputs : Query → Row → List Row → List Output
outputs q params = map (λ r. output q (params ∷ r ∷ []))

pub record AnswersOver (q : Query) (rows shown : List Row) (params : Row) : Type 0 where
  pub ordered : List Output
  pub same : IsPermutation (outputs q params rows) ordered
  pub sorted : IsSorted (output_cmp q) ordered
  pub shows : shown ≡ page q params (map (λ (o : Output). o.1) ordered)

pub no_overlay : (db : Trees) (t : ℕ) → overlay db [] t ≡ db t
no_overlay db t = elim (nat_le (2 ^ 31) t) as
    (λ b. unwrap_or (if b then slice_get {X = List Row} [] (t - 2 ^ 31) else None) (db t) ≡ db t)
    [ true ↦ refl | false ↦ refl ]

module _ (tree : ℕ) (terms project : List Term) (db : Trees) (params : Row) (rows : List Row) where
  module _ (order : List (Term × Key)) (limit : Term) where
    pub answers_over : IsProgramAnswer [] (over tree terms project order limit) db params rows
        → AnswersOver (over tree terms project order limit) (filter (passes terms params) (db tree)) rows params
    answers_over h =
        let q = over tree terms project order limit in
        let a = h Null in
        let staged : a.staged ≡ map (λ r. params ∷ r ∷ []) (filter (passes terms params) (db tree)) =
        a.grouped ∙ flat_filtered (passes terms params) (λ r. params ∷ r ∷ []) (overlay db [] tree)
        ∙ ap (λ rs. map (λ r. params ∷ r ∷ []) (filter (passes terms params) rs)) (no_overlay db tree) in
        let kept : a.kept ≡ outputs q params (filter (passes terms params) (db tree)) =
        a.distinct ∙ ap (map (output q)) staged
        ∙ map-map (output q) (λ r. params ∷ r ∷ []) (filter (passes terms params) (db tree)) in
        record {
          ordered = a.ordered;
          same = subst (λ k. IsPermutation k a.ordered) kept a.same;
          sorted = a.sorted;
          shows = a.shown;
        }

  -- with no order and no limit
  pub answers_all : IsProgramAnswer [] (all_of tree terms project) db params rows
      → IsPermutation (map (λ r. eval_all project (params ∷ r ∷ [])) (filter (passes terms params) (db tree))) rows
  answers_all h =
      let a = answers_over [] (all_of tree terms project).limit h in
      let shown = IsPermutation-map (λ (o : Output). o.1) _ _ a.same in
      subst (λ xs. IsPermutation xs rows)
      (map-map (λ (o : Output). o.1) (λ r. output (all_of tree terms project) (params ∷ r ∷ []))
      (filter (passes terms params) (db tree)))
      (subst (IsPermutation _) (sym a.shows) shown)
