-- Whole numbers: the naturals among them, and what their order tells.
use Rattle.std.proofs.Common.{◌≡◌, ℕ, ℤ, pos, ◌<ℤ◌, ◌≤ℤ◌, true, false, arith, unsigned_abs}
use Rattle.std.proofs.lemmas.Int.{ints}
use Rattle.std.specs.declared.cmp.Ordering.{Ordering}
use Rattle.std.specs.declared.cmp.Ordering.TheVariants.{Less, Equal, Greater}
use Rattle.std.specs.Ordering.{MatchOrdering, is_lt, int_cmp}
use Rattle.std.specs.Cmp.{int_ranks}

pub same_pos : (a b : ℕ) → pos a ≡ pos b → a ≡ b
same_pos a b e = cc

pub natural : (z : ℤ) → pos 0 ≤ℤ z → z ≡ pos (unsigned_abs z)
natural z low = omega (arith, ints, low)

pub above_zero : (z : ℤ) → pos 1 ≤ℤ z → z ≡ pos (unsigned_abs z)
above_zero z low = omega (arith, ints, low)

pub not_less : (a b : ℤ) → is_lt (int_cmp a b) ≡ false → b ≤ℤ a
not_less a b h = go (int_cmp a b) (int_ranks a b) h
  where
    go : (o : Ordering) → MatchOrdering o (a <ℤ b) (a ≡ b) (b <ℤ a) → is_lt o ≡ false → b ≤ℤ a
    go Less m t = absurd (let f : true ≡ false = t in cc)
    go Equal m t = omega (arith, ints)
    go Greater m t = omega (arith, ints)
