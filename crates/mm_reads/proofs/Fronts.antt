-- The lines of the first rows of an answer are the first lines of the list.
use Rattle.std.proofs.Common.{◌≡◌, ℕ, Bool, List, [], ◌∷◌, ◌++◌, map, refl, sym, ap, subst, ◌∙◌, append_assoc}
use Rattle.std.specs.declared.cmp.Ordering.{Ordering}
use Rattle.std.specs.List.{AllByRecursion, flat_map}
use Rattle.std.specs.FinMap.{FinMap}
use Rattle.sqlite.specs.Order.{Row}
use Rattle.sqlite.specs.Tree.{IsTable}
use Rattle.sql_forms.specs.Maps.{Holds}
use Rattle.mm_store.proofs.Parts.{IsPart}
use Rattle.mm_reads.proofs.InOrder.{Enters, entered}

-- the rows show these lines, one after another
abbrev pub ShowsEach : (Row → List ℕ → Type 0) → List Row → List ℕ → Type 0
ShowsEach Shows [] text = text ≡ []
ShowsEach Shows (r ∷ rows) text = (line : List ℕ) × (rest : List ℕ) × Shows r line × ShowsEach Shows rows rest
    × (text ≡ line ++ rest)

-- the text begins the whole, and ends it where no rows are left
abbrev pub Fronts : List ℕ → List ℕ → List Row → Type 0
Fronts whole text tail = (rest : List ℕ) × (whole ≡ text ++ rest) × (tail ≡ [] → rest ≡ [])

module _ {K V : Type 0} {R : K → K → Ordering} {part : Row → Row} {row_of : K → V → Row} {test : K → Row → Bool}
    (it : IsPart R part row_of test) (table : List Row) (m : FinMap R V) (h : Holds part row_of table m)
    (up : IsTable table) (line_of : K × V → List ℕ)
    (show : Row → Row) (Shows : Row → List ℕ → Type 0) (tells : (r : Row) (k : K) (v : V) → part r ≡ row_of k v
    → (line : List ℕ) → Shows (show r) line → line ≡ line_of (k, v)) where
  abbrev lines : (ys : List Row) → AllByRecursion (Enters it table m h up) ys → List ℕ
  lines ys all = flat_map line_of (entered it table m h up ys all)

  ends : (ys : List Row) (all : AllByRecursion (Enters it table m h up) ys) → map show ys ≡ [] → lines ys all ≡ []
  ends [] all none = refl
  ends (y ∷ ys) all none = absurd cc

  pub fronts : (ys : List Row) (all : AllByRecursion (Enters it table m h up) ys) (rows tail : List Row)
      → map show ys ≡ rows ++ tail
      → (text : List ℕ) → ShowsEach Shows rows text → Fronts (lines ys all) text tail
  fronts ys all [] tail same text none =
      (lines ys all, ap (λ t. t ++ lines ys all) (sym none), λ no. ends ys all (same ∙ no))
  fronts [] all (r ∷ rows) tail same text each = absurd cc
  fronts (y ∷ ys) all (r ∷ rows) tail same text (line, rest, shown, more, is) =
      let first : show y ≡ r = cc in
      let others : map show ys ≡ rows ++ tail = cc in
      let here : line ≡ line_of (all.0.0, all.0.1) = tells y all.0.0 all.0.1 all.0.3 line
      (subst (λ x. Shows x line) (sym first) shown) in
      let next = fronts ys all.1 rows tail others rest more in (
        next.0,
        ap (λ x. x ++ lines ys all.1) (sym here) ∙ ap (λ x. line ++ x) next.1 ∙ sym (append_assoc line rest next.0)
            ∙ ap (λ t. t ++ next.0) (sym is),
        next.2,
      )
