use Rattle.std.proofs.Common.{ℕ, pos, ◌-◌, ◌*◌, ◌*ℤ◌, ◌^◌, ◌<◌, w64, arith, to_z, of_z, FitsSigned, ◌≡◌, ap, ◌∙◌}
use Rattle.std.specs.Int.{w128}
use Rattle.std.proofs.lemmas.Int.{ints, fits_signed_mul, to_z-of_z}
use Rattle.mm_definitions.proofs.extents.product.Goals as goal

below : (a b : ℕ) → a < 2 ^ 32 → b < 2 ^ 32 → a * b < 2 ^ 64
below a b h k = grind arith

pub overflow_mul-result : goal.overflow_mul-result
overflow_mul-result c =
    let tiles : c.args.tiles < 2 ^ 32 = omega arith in
    let pixels : c.args.pixels < 2 ^ 32 = omega arith in
    let small = below c.args.tiles c.args.pixels tiles pixels in
    fits_signed_mul w128 (to_z w128 (c.args.tiles * c.args.pixels))
    (to_z w128 (of_z w128 (to_z w64 (of_z w64 c.args.size)))) (2 ^ 64 - 1) (2 ^ 63) (omega (arith, ints, small))
    (omega (arith, ints)) (omega arith)

pub returns : goal.returns
returns c =
    let count = c.args.tiles * c.args.pixels in
    let tiles : c.args.tiles < 2 ^ 32 = omega arith in
    let pixels : c.args.pixels < 2 ^ 32 = omega arith in
    let small = below c.args.tiles c.args.pixels tiles pixels in
    let wide : to_z w128 count ≡ pos count = omega (arith, ints, small) in
    let same : to_z w128 (of_z w128 (to_z w64 (of_z w64 c.args.size))) ≡ c.args.size = omega (arith, ints) in
    let fits : FitsSigned w128 (pos count *ℤ c.args.size) = fits_signed_mul w128 (pos count) c.args.size (2 ^ 64 - 1)
    (2 ^ 63) (omega (arith, ints, small)) (omega (arith, ints)) (omega arith) in
    ap (λ z. to_z w128 (of_z w128 z)) (λ i. wide i *ℤ same i) ∙ to_z-of_z w128 (pos count *ℤ c.args.size) fits
