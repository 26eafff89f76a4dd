-- Numbers in the smaller unit.
use Rattle.std.proofs.Common.{◌≡◌, zero, suc, ℤ, pos, negsuc, ◌+ℤ◌, ◌-ℤ◌}
use Rattle.std.proofs.Common.{◌*ℤ◌, ◌<ℤ◌, sym, ap, ◌∙◌, arith}
use Rattle.std.proofs.lemmas.Int.{ints}
use Rattle.std.proofs.Math.IntN.{zero-*ℤ, suc_ℤ-*ℤ, pred_ℤ-*ℤ}
use Rattle.mm_definitions.specs.Bounds.{IsCoordinate, IsPixelSize, millimetres, micrometres}
use Rattle.mm_definitions.specs.Scale.{finer}

pub coordinate : (z : ℤ) → IsCoordinate millimetres z → IsCoordinate micrometres (finer z)
coordinate z h = (omega (arith, ints), omega (arith, ints))

pub pixel_size : (z : ℤ) → IsPixelSize millimetres z → IsPixelSize micrometres (finer z)
pixel_size z h = (omega (arith, ints), omega (arith, ints))

pub less : (a b : ℤ) → a <ℤ b → finer a <ℤ finer b
less a b h = omega (arith, ints)

pub apart : (a b : ℤ) → finer a -ℤ finer b ≡ finer (a -ℤ b)
apart a b = omega (arith, ints)

pub double : (a b : ℤ) → a ≡ pos 2 *ℤ b → finer a ≡ pos 2 *ℤ finer b
double a b e = omega (arith, ints)

together : (a b : ℤ) → finer a +ℤ finer b ≡ finer (a +ℤ b)
together a b = omega (arith, ints)

none_times : (b : ℤ) → pos zero *ℤ finer b ≡ finer (pos zero *ℤ b)
none_times b = zero-*ℤ (finer b) ∙ sym (ap finer (zero-*ℤ b))

-- a factor goes past the unit
pub times : (a b : ℤ) → a *ℤ finer b ≡ finer (a *ℤ b)
times (pos zero) b = none_times b
times (pos (suc n)) b = suc_ℤ-*ℤ (pos n) (finer b) ∙ ap (λ z. z +ℤ finer b) (times (pos n) b) ∙ together (pos n *ℤ b) b
    ∙ sym (ap finer (suc_ℤ-*ℤ (pos n) b))
times (negsuc zero) b = pred_ℤ-*ℤ (pos zero) (finer b) ∙ ap (λ z. z -ℤ finer b) (none_times b) ∙ apart (pos zero *ℤ b) b
    ∙ sym (ap finer (pred_ℤ-*ℤ (pos zero) b))
times (negsuc (suc n)) b = pred_ℤ-*ℤ (negsuc n) (finer b) ∙ ap (λ z. z -ℤ finer b) (times (negsuc n) b)
    ∙ apart (negsuc n *ℤ b) b ∙ sym (ap finer (pred_ℤ-*ℤ (negsuc n) b))

-- a size in the larger limits, told as it was
pub wider : (z : ℤ) → IsPixelSize millimetres z → IsPixelSize micrometres z
wider z h = (h.0, omega (arith, ints))
