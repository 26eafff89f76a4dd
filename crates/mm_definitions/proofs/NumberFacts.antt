-- The value of digits, one at a time.
use Rattle.std.proofs.Common.{◌≡◌, ◌≤◌, ◌<◌, ◌+◌, ◌-◌, ◌*◌, ℕ, List, [], ◌∷◌, drop, length, refl, arith, ℤ, pos}
use Rattle.std.proofs.Common.{◌<ℤ◌}
use Rattle.std.proofs.Common.{◌⊎◌, inl, inr, Bool, true, false, FitsSigned, w64, ◌^◌, zero, suc}
use Rattle.std.specs.Prelude.{get_or}
use Rattle.std.proofs.lemmas.List.{drop_more}
use Rattle.std.proofs.lemmas.Int.{ints}
use Rattle.mm_definitions.specs.Numbers.{AreDigits, SpellsNumber, signed, value_from}

pub value-le : (n : ℕ) (digits : List ℕ) → n ≤ value_from n digits
unfolding value_from
value-le n [] = omega arith
value-le n (d ∷ rest) = omega (arith, value-le (10 * n + (d - 48)) rest)

pub value-step : (n i : ℕ) (digits : List ℕ) → i < length digits
    → value_from n (drop i digits) ≡ value_from (10 * n + (get_or digits i 0 - 48)) (drop (i + 1) digits)
unfolding value_from
value-step n i digits lt = rw (drop_more digits i 0 lt) refl

-- a number that doesn't fit 64 bits is outside two that do
pub outside : (z least most : ℤ) → ¬ (FitsSigned w64 z) → FitsSigned w64 least → FitsSigned w64 most → (z <ℤ least)
    ⊎ (most <ℤ z)
outside z least most unfit a b = grind (arith, ints)

pub too-high : (negative : Bool) (v : ℕ) → 2 ^ 64 ≤ v → ¬ (FitsSigned w64 (signed negative v))
too-high true v h fits = absurd (omega (arith, ints))
too-high false v h fits = absurd (omega (arith, ints))

-- the text 0
pub zero-digits : AreDigits (48 ∷ [])
zero-digits zero d lt = (omega arith, omega arith)
zero-digits (suc k) d lt = absurd (omega arith)

pub zero-spells : (z : ℤ) → (SpellsNumber (48 ∷ []) z → z ≡ pos 0) × (z ≡ pos 0 → SpellsNumber (48 ∷ []) z)
zero-spells z = (by, λ e. inl (refl, e))
  where
    by : SpellsNumber (48 ∷ []) z → z ≡ pos 0
    by (inl h) = h.1
    by (inr (inl h)) = absurd (omega (arith, h.0.0))
    by (inr (inr h)) = cc h.1
