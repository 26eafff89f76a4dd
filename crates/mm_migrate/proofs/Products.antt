-- What a column times the factor gives.
use Rattle.std.proofs.Common.{◌≡◌, ◌<◌, ◌^◌, ℤ, pos, negsuc, neg_ℤ, true, if◌then◌else◌, Option, Some, None, IfSome}
use Rattle.std.proofs.Common.{option_map, refl, ap, ◌∙◌, arith}
use Rattle.std.proofs.lemmas.Int.{ints}
use Rattle.std.proofs.lemmas.Bool.Decides.{nat_tests}
use Rattle.std.proofs.Math.IntN.{*ℤ_comm}
use Rattle.sqlite.specs.declared.types.Value.TheVariants.{Int}
use Rattle.sql_forms.specs.BinaryOp.TheVariants.{Arith}
use Rattle.sql_forms.specs.ArithOp.TheVariants.{Mul}
use Rattle.sql_forms.specs.Ops.{binary, int_or, real_arith, from_int, if_fits, fits_i64}
use Rattle.mm_definitions.specs.Bounds.{IsFrom, IsCoordinate, IsPixelSize, millimetres}
use Rattle.mm_definitions.specs.Scale.{finer}
use Rattle.mm_store.specs.Rows.{maybe}

fits : (z : ℤ) → IsFrom (neg_ℤ (pos (10 ^ 14))) (pos (10 ^ 14)) z → fits_i64 z ≡ true
fits (pos n) h = let small : n < 2 ^ 63 = omega (arith, ints) in grind (arith, nat_tests)
fits (negsuc n) h = let small : n < 2 ^ 63 = omega (arith, ints) in grind (arith, nat_tests)

held : (z y : ℤ) → z ≡ y → fits_i64 y ≡ true → int_or (if_fits z) (real_arith Mul (from_int z) (from_int (pos 1000)))
    ≡ Int y
held z y same small = ap (λ x. int_or (if_fits x) (real_arith Mul (from_int z) (from_int (pos 1000)))) same
    ∙ ap (λ b. int_or (if b then Some y else None) (real_arith Mul (from_int z) (from_int (pos 1000)))) small

pub coordinate : (z : ℤ) → IsCoordinate millimetres z → binary (Arith Mul) (Int z) (Int (pos 1000)) ≡ Int (finer z)
unfolding binary
coordinate z h =
    ap (λ x. int_or (if_fits x) (real_arith Mul (from_int z) (from_int (pos 1000)))) (*ℤ_comm z (pos 1000))
    ∙ ap (λ b. int_or (if b then Some (finer z) else None) (real_arith Mul (from_int z) (from_int (pos 1000))))
    (fits (finer z) (omega (arith, ints), omega (arith, ints)))

pub pixel_size : (z : ℤ) → IsPixelSize millimetres z → binary (Arith Mul) (Int z) (Int (pos 1000)) ≡ Int (finer z)
pixel_size z h = coordinate z (omega (arith, ints), omega (arith, ints))

pub bound : (o : Option ℤ) → IfSome o (IsCoordinate millimetres)
    → binary (Arith Mul) (maybe o) (Int (pos 1000)) ≡ maybe (option_map finer o)
unfolding binary
bound None h = refl
bound (Some z) h = coordinate z h
