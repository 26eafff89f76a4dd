-- The rows that a query shows, and the matches of its FROM.
use Rattle.std.proofs.Common.{◌≡◌, inl, inr, Bool, true, false, cond, List, [], ◌∷◌, ◌++◌, map, filter, refl, sym, ap}
use Rattle.std.proofs.Common.{subst, ◌∙◌}
use Rattle.std.specs.List.{AllByRecursion, flat_map, list_all}
use Rattle.std.proofs.lemmas.List.Sorted.{IsPermutation-sym}
use Rattle.sql_forms.specs.Key.{Key}
use Rattle.sql_forms.specs.Order.{Row}
use Rattle.sql_forms.specs.Tree.{Trees}
use Rattle.sql_forms.proofs.TreeLists.{all-map, all_from_map, all-permutation}
use Rattle.sql_forms.specs.Term.{Term, Env, eval_all, holds}
use Rattle.sql_forms.specs.Query.{Query, Join, end, inner, left, counted, made, folded, first, matches, or_nulls}
use Rattle.sql_forms.specs.Query.{Output, output, IsAnswer}
use Rattle.sql_forms.specs.Lists.{Has}
use Rattle.sql_forms.specs.Forms.{query, no_limit}
use Rattle.mm_walk.specs.RowTests.{OnTrue, EachMatch}

module _ {X : Type 0} (P : X → Type 0) where
  pub all_joined : (xs ys : List X) → AllByRecursion P xs → AllByRecursion P ys → AllByRecursion P (xs ++ ys)
  all_joined [] ys h k = k
  all_joined (x ∷ xs) ys h k = (h.0, all_joined xs ys h.1 k)

  pub all_split : (xs ys : List X) → AllByRecursion P (xs ++ ys) → AllByRecursion P xs × AllByRecursion P ys
  all_split [] ys h = (tt, h)
  all_split (x ∷ xs) ys h = let it = all_split xs ys h.1 in ((h.0, it.0), it.1)

  pub all_flat : {Y : Type 0} (f : Y → List X) (ys : List Y) → ((y : Y) → Has ys y → AllByRecursion P (f y))
      → AllByRecursion P (flat_map f ys)
  all_flat f [] h = tt
  all_flat f (y ∷ ys) h = all_joined (f y) (flat_map f ys) (h y (inl refl)) (all_flat f ys (λ z there. h z (inr there)))

  pub flat_all : {Y : Type 0} (f : Y → List X) (ys : List Y) → AllByRecursion P (flat_map f ys) → (y : Y) → Has ys y
      → AllByRecursion P (f y)
  flat_all f [] h y there = absurd there
  flat_all f (z ∷ ys) h y (inl same) = subst (λ w. AllByRecursion P (f w)) (sym same)
      (all_split (f z) (flat_map f ys) h).0
  flat_all f (z ∷ ys) h y (inr there) = flat_all f ys (all_split (f z) (flat_map f ys) h).1 y there

module _ (db : Trees) (terms : List Term) (P : Env → Type 0) where
  at_end : (env : Env) (b : Bool) → OnTrue b (P env) → AllByRecursion P (cond b (env ∷ []) [])
  at_end env true h = (h, tt)
  at_end env false h = tt

  from_end : (env : Env) (b : Bool) → AllByRecursion P (cond b (env ∷ []) []) → OnTrue b (P env)
  from_end env true h = h.0
  from_end env false h = tt

  pub all_matches : (from : Join) (env : Env) → EachMatch db terms from env P
      → AllByRecursion P (matches db terms from env)
  all_matches end env h = at_end env (list_all (holds env) terms) h
  all_matches (inner t more) env h = all_flat P (λ (r : Row). matches db terms more (env ++ r ∷ [])) (db t)
      (λ r there. all_matches more (env ++ r ∷ []) (h r there))
  all_matches (left t on more) env h =
      all_flat P (λ (r : Row). matches db terms more (env ++ r ∷ []))
      (or_nulls (filter (λ (r : Row). list_all (holds (env ++ r ∷ [])) on) (db t)))
      (λ r there. all_matches more (env ++ r ∷ []) (h r there))
  all_matches (counted most from test more) env h = h
  all_matches (made m more) env h = h
  all_matches (folded from test all more) env h = h
  all_matches (first from test order shown more) env h = h

  pub each_match : (from : Join) (env : Env) → AllByRecursion P (matches db terms from env)
      → EachMatch db terms from env P
  each_match end env h = from_end env (list_all (holds env) terms) h
  each_match (inner t more) env h = λ r there. each_match more (env ++ r ∷ [])
      (flat_all P (λ (r : Row). matches db terms more (env ++ r ∷ [])) (db t) h r there)
  each_match (left t on more) env h =
      λ r there. each_match more (env ++ r ∷ []) (flat_all P (λ (r : Row). matches db terms more (env ++ r ∷ []))
      (or_nulls (filter (λ (r : Row). list_all (holds (env ++ r ∷ [])) on) (db t))) h r there)
  each_match (counted most from test more) env h = h
  each_match (made m more) env h = h
  each_match (folded from test all more) env h = h
  each_match (first from test order shown more) env h = h

-- the rows of an answer are what the matches show
module _ (from : Join) (terms project : List Term) (order : List (Term × Key)) (db : Trees) (params : Row)
    (rows : List Row) (a : IsAnswer (query from terms project order no_limit) db params rows) (good : Row → Type 0)
  where
    abbrev q : Query
    q = query from terms project order no_limit

    abbrev shows : Env → Type 0
    shows env = good (eval_all project env)

    kept : a.kept ≡ map (output q) (matches db terms from (params ∷ []))
    kept = a.distinct ∙ ap (map (output q)) a.grouped

    pub each_good : AllByRecursion good rows → EachMatch db terms from (params ∷ []) shows
    each_good h =
        let ordered = all_from_map good (λ (o : Output). o.1) a.ordered (subst (AllByRecursion good) a.shown h) in
        let placed = all-permutation (λ (o : Output). good o.1) a.ordered a.kept (IsPermutation-sym _ _ a.same)
        ordered in
        each_match db terms shows from (params ∷ [])
        (all_from_map (λ (o : Output). good o.1) (output q) (matches db terms from (params ∷ []))
        (subst (AllByRecursion (λ (o : Output). good o.1)) kept placed))

    pub all_good : EachMatch db terms from (params ∷ []) shows → AllByRecursion good rows
    all_good h =
        let placed = subst (AllByRecursion (λ (o : Output). good o.1)) (sym kept)
        (all-map (λ (o : Output). good o.1) (output q) (matches db terms from (params ∷ []))
        (all_matches db terms shows from (params ∷ []) h)) in
        let ordered = all-permutation (λ (o : Output). good o.1) a.kept a.ordered a.same placed in
        subst (AllByRecursion good) (sym a.shown) (all-map good (λ (o : Output). o.1) a.ordered ordered)
