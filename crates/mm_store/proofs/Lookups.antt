-- What a row that was looked up tells of its part.
use Rattle.std.proofs.Common.{◌≡◌, ℕ, Bool, ℤ, List, Option, Some, None, option_map, string_bytes, String, refl, sym}
use Rattle.std.proofs.Common.{ap, subst, ◌∙◌}
use Rattle.std.specs.declared.cmp.Ordering.{Ordering}
use Rattle.std.specs.FinMap.{FinMap, get}
use Rattle.sqlite.specs.declared.types.Value.TheVariants.{Int, Text as Words}
use Rattle.sqlite.specs.Order.{Row, column}
use Rattle.sql_forms.specs.Tables.{FindsRow}
use Rattle.sql_forms.specs.Maps.{Holds}
use Rattle.mm_store.specs.Statements.{GivesText, GivesPair}
use Rattle.mm_store.proofs.Parts.{IsPart, finds_none, finds_some}

pub mapped_same : {X : Type 0} (o : Option X) → o ≡ option_map (λ x. x) o
mapped_same None = refl
mapped_same (Some x) = refl

module _ {K V : Type 0} {R : K → K → Ordering} {part : Row → Row} {row_of : K → V → Row} {test : K → Row → Bool}
    (it : IsPart R part row_of test) (rows : List Row) (m : FinMap R V) (h : Holds part row_of rows m) (k : K) where
  -- a text of the entry, where the row shows it in its first column
  pub text_found : {A : Type 0} (show : Row → Row) (of : V → List ℕ)
      → ((r : Row) (v : V) → part r ≡ row_of k v → column (show r) 0 ≡ Words (of v))
      → (x : Option (String A)) (first : Option Row) → GivesText x first
      → FindsRow (test k) show rows first → option_map of (get m k) ≡ option_map string_bytes x
  text_found show of shows None first gives found =
      ap (option_map of) (finds_none it rows m h k show (subst (FindsRow (test k) show rows) gives found))
  text_found show of shows (Some text) first gives found =
      let at = finds_some it rows m h k show gives.0 (subst (FindsRow (test k) show rows) gives.1 found) in
      let e : Words (string_bytes text) ≡ Words (of at.0) = sym gives.2 ∙ ap (λ (r : Row). column r 0) at.4
      ∙ shows at.2 at.0 at.3 in
      let same : of at.0 ≡ string_bytes text = cc in
      ap (option_map of) at.1 ∙ ap Some same

  -- two numbers of the entry, where the row shows them in its first two columns
  pub pair_found : (show : Row → Row) (of : V → ℤ × ℤ)
      → ((r : Row) (v : V) → part r ≡ row_of k v → (column (show r) 0 ≡ Int (of v).0)
      × (column (show r) 1 ≡ Int (of v).1))
      → (x : Option (ℤ × ℤ)) (first : Option Row) → GivesPair x first
      → FindsRow (test k) show rows first → option_map of (get m k) ≡ x
  pair_found show of shows None first gives found =
      ap (option_map of) (finds_none it rows m h k show (subst (FindsRow (test k) show rows) gives found))
  pair_found show of shows (Some pair) first gives found =
      let at = finds_some it rows m h k show gives.0 (subst (FindsRow (test k) show rows) gives.1 found) in
      let s = shows at.2 at.0 at.3 in
      let a : Int pair.0 ≡ Int (of at.0).0 = sym gives.2 ∙ ap (λ (r : Row). column r 0) at.4 ∙ s.0 in
      let b : Int pair.1 ≡ Int (of at.0).1 = sym gives.3 ∙ ap (λ (r : Row). column r 1) at.4 ∙ s.1 in
      let first_is : (of at.0).0 ≡ pair.0 = cc in
      let second_is : (of at.0).1 ≡ pair.1 = cc in
      ap (option_map of) at.1 ∙ (λ i. Some (first_is i, second_is i))
