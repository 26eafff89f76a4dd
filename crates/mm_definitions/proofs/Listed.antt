-- What holds of each entry of a finite map holds along the list of its entries.
use Rattle.std.proofs.Common.{◌≡◌, Bool, true, false, cond, ◌&&◌, ◌||◌, List, [], ◌∷◌, Some, None, refl, ap, ◌∙◌, inl}
use Rattle.std.proofs.Common.{inr}
use Rattle.std.specs.Prelude.{T}
use Rattle.std.specs.declared.cmp.Ordering.{Ordering}
use Rattle.std.specs.declared.cmp.Ordering.TheVariants.{Less, Equal, Greater}
use Rattle.std.specs.Ordering.{is_eq, is_lt}
use Rattle.std.specs.List.{AllByRecursion, list_any}
use Rattle.std.specs.FinMap.{FinMap, entries, entries_sorted, find, is_sorted, get-entries}
use Rattle.std.specs.FinMap.Entries.{below_all}
use Rattle.mm_definitions.specs.Parts.{Each}
use Rattle.mm_definitions.proofs.Parts.{IsKeyOrder, same_key, same_itself, not_none}

pub and_parts : (a b : Bool) → T (a && b) → T a × T b
and_parts true b h = (tt, h)
and_parts false b h = absurd h

pub and_both : (a b : Bool) → T a → T b → T (a && b)
and_both true b p q = q
and_both false b p q = p

-- a test that is false of each element is true of none
pub none_along : {A : Type 0} (test : A → Bool) (es : List A) → AllByRecursion (λ e. test e ≡ false) es
    → list_any test es ≡ false
none_along test [] h = refl
none_along test (e ∷ es) h = ap (λ b. b || list_any test es) h.0 ∙ none_along test es h.1

not_tied : (r : Ordering) → T (is_lt r) → is_eq r ≡ false
not_tied Less h = refl
not_tied Equal h = absurd h
not_tied Greater h = refl

module _ {K X : Type 0} {R : K → K → Ordering} (o : IsKeyOrder R) where
  nowhere : (q : K) (es : List (K × X)) → T (below_all R q es) → find R q es ≡ None
  nowhere q [] h = refl
  nowhere q (e ∷ es) h =
      let p = and_parts (is_lt (R q e.0)) (below_all R q es) h in
      ap (λ b. cond b (Some e.1) (find R q es)) (not_tied (R q e.0) p.0) ∙ nowhere q es p.1

  all_found : (P : K → X → Type 0) (es : List (K × X)) → T (is_sorted R es)
      → ((q : K) (x : X) → find R q es ≡ Some x → P q x)
      → AllByRecursion (λ e. P e.0 e.1) es
  all_found P [] s h = tt
  all_found P (e ∷ es) s h =
      let p = and_parts (below_all R e.0 es) (is_sorted R es) s in (
        h e.0 e.1 (ap (λ b. cond b (Some e.1) (find R e.0 es)) (same_itself o e.0)),
        all_found P es p.1 (λ q x f. h q x (elim (same_key o q e.0) as (λ _. find R q (e ∷ es) ≡ Some x) [
          | inl t ↦ absurd (not_none f (ap (λ k. find R k es) t.0 ∙ nowhere e.0 es p.0))
          | inr n ↦ ap (λ b. cond b (Some e.1) (find R q es)) n.1 ∙ f
        ])),
      )

  pub along_entries : (P : K → X → Type 0) (m : FinMap R X) → Each m P → AllByRecursion (λ e. P e.0 e.1) (entries m)
  along_entries P m h = all_found P (entries m) (entries_sorted m) (λ q x f. h q x (get-entries m q ∙ f))
