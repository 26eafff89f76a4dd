-- The decimal text of a whole number spells it.
use Rattle.std.proofs.Common.{◌≡◌, ◌+◌, ◌-◌, ◌*◌, ◌/◌, ◌%◌, ◌<◌, ◌≤◌, ◌^◌, ◌⊎◌, inl, inr, ℕ, zero}
use Rattle.std.proofs.Common.{suc, ℤ, pos, negsuc}
use Rattle.std.proofs.Common.{List, [], ◌∷◌, ◌++◌, refl, ap, arith}
use Rattle.std.specs.Prelude.{◌≤ℤ◌, neg_ℤ}
use Rattle.std.specs.Fmt.{decimal, signed_decimal}
use Rattle.std.proofs.lemmas.Fmt.{decimal_by_steps}
use Rattle.std.proofs.lemmas.Int.{ints}
use Rattle.std.proofs.lemmas.List.Elements.{All-append, All-cons}
use Rattle.mm_definitions.specs.Numbers.{AreDigits, IsDigit, LeadDigits, SpellsNumber, value_from}

-- a number and its digits: 0 alone, or digits of which the first isn't 0
abbrev Spelled : ℕ → List ℕ → Type 0
Spelled n ds = ((n ≡ 0) × (ds ≡ 48 ∷ [])) ⊎ (LeadDigits ds × (n ≡ value_from 0 ds))

no_digits : AreDigits []
no_digits k d lt = absurd (omega arith)

one_digit : (d : ℕ) → IsDigit d → AreDigits (d ∷ [])
one_digit d is = All-cons IsDigit d [] is no_digits

value_push : (n d : ℕ) (ds : List ℕ) → value_from n (ds ++ d ∷ []) ≡ 10 * value_from n ds + (d - 48)
unfolding value_from
value_push n d [] = refl
value_push n d (e ∷ ds) = value_push (10 * n + (e - 48)) d ds

lead_push : (d : ℕ) (ds : List ℕ) → IsDigit d → LeadDigits ds → LeadDigits (ds ++ d ∷ [])
lead_push d [] is lead = absurd lead
lead_push d (e ∷ ds) is lead = (lead.0, lead.1, All-append IsDigit ds (d ∷ []) lead.2 (one_digit d is))

one : (n : ℕ) → n < 10 → Spelled n ((48 + n) ∷ [])
unfolding value_from
one zero less = inl (refl, refl)
one (suc n) less = inr ((omega (arith, less), omega (arith, less), no_digits), omega arith)

more : (n : ℕ) (ds : List ℕ) → 10 ≤ n → Spelled (n / 10) ds → Spelled n (ds ++ (48 + n % 10) ∷ [])
more n ds ge (inl (none, is)) = absurd (omega (arith, none, ge))
more n ds ge (inr (lead, is)) =
    let digit : IsDigit (48 + n % 10) = (omega arith, omega arith) in
    inr (lead_push (48 + n % 10) ds digit lead, omega (arith, is, value_push 0 (48 + n % 10) ds))

pub spelled : (n : ℕ) → n < 2 ^ 64 → Spelled n (decimal n)
spelled n small = decimal_by_steps Spelled one more n small

pub spells_pos : (n : ℕ) → n < 2 ^ 64 → SpellsNumber (decimal n) (pos n)
spells_pos n small = elim (spelled n small) as (λ _. SpellsNumber (decimal n) (pos n)) [
  | inl none ↦ inl (none.1, ap pos none.0)
  | inr it ↦ inr (inl (it.0, ap pos it.1))
]

pub spells_negsuc : (n : ℕ) → suc n < 2 ^ 64 → SpellsNumber (45 ∷ decimal (suc n)) (negsuc n)
spells_negsuc n small = elim (spelled (suc n) small) as (λ _. SpellsNumber (45 ∷ decimal (suc n)) (negsuc n)) [
  | inl none ↦ absurd (omega (arith, none.0))
  | inr it ↦ inr (inr (decimal (suc n), refl, it.0, ap (λ m. neg_ℤ (pos m)) it.1))
]

pub spells : (z : ℤ) → negsuc (10 ^ 18) ≤ℤ z → z ≤ℤ pos (10 ^ 18) → SpellsNumber (signed_decimal z) z
spells (pos n) low high = spells_pos n (omega (arith, ints, high))
spells (negsuc n) low high = spells_negsuc n (omega (arith, ints, low))
