use Rattle.std.proofs.Common.{◌∙◌, ap, refl, inl, inr, rules, arith, w64, ◌≤ℤ◌}
use Rattle.std.proofs.lemmas.Int.{ints, to_z-of_z}
use mir.Val.{SFits}
use Rattle.mm_definitions.specs.Numbers.{signed, value_from}
use Rattle.mm_definitions.proofs.NumberFacts.{outside, too-high}
use Rattle.mm_definitions.proofs.numbers.read_number.Goals as goal

pub returns-in_default-clause-err : goal.returns-in_default-clause-err
returns-in_default-clause-err c = inl (refl, simp c.as_bytes.ensures.value at (rw c.in_default.is at c.parts.ensures))

pub returns-in_default-magnitude-clause-err : goal.returns-in_default-magnitude-clause-err
returns-in_default-magnitude-clause-err c =
    let negative = c.in-Some.negative in
    let v = value_from 0 c.in-Some.digits.now in
    let spelled = simp c.as_bytes.ensures.value at (rw c.in-Some.is at c.parts.ensures) in
    let high = rw c.in_default-magnitude.is at c.magnitude.ensures in
    inr (
      refl,
      signed negative v,
      (spelled.1 (signed negative v)).1 refl,
      outside (signed negative v) c.args.least
          c.args.most (too-high negative v high) c.ranges.least c.ranges.most,
    )

pub returns-in_default-with_sign-clause-err : goal.returns-in_default-with_sign-clause-err
returns-in_default-with_sign-clause-err c =
    let negative = c.in-Some.negative in
    let n = c.in-Some-magnitude.n in
    let spelled = simp c.as_bytes.ensures.value at (rw c.in-Some.is at c.parts.ensures) in
    let value = rw c.in-Some-magnitude.is at c.magnitude.ensures in
    let unfit = rw c.in_default-with_sign.is at c.with_sign.ensures in
    inr (
      refl,
      signed negative n,
      (spelled.1 (signed negative n)).1 (ap (signed negative) value),
      outside
          (signed negative n) c.args.least c.args.most unfit c.ranges.least c.ranges.most,
    )

pub returns-then-z-least-clause-err : goal.returns-then-z-least-clause-err
returns-then-z-least-clause-err c =
    let spelled = simp c.as_bytes.ensures.value at (rw c.in-Some.is at c.parts.ensures) in
    let value = rw c.in-Some-magnitude.is at c.magnitude.ensures in
    let whole = rw c.in-Some-with_sign.is at c.with_sign.ensures in
    inr (
      refl,
      c.in-Some-with_sign.z,
      (spelled.1 c.in-Some-with_sign.z).1
          (whole ∙ ap (signed c.in-Some.negative) value),
      inl (search rules),
    )

pub returns-then-most-z-clause-err : goal.returns-then-most-z-clause-err
returns-then-most-z-clause-err c =
    let spelled = simp c.as_bytes.ensures.value at (rw c.in-Some.is at c.parts.ensures) in
    let value = rw c.in-Some-magnitude.is at c.magnitude.ensures in
    let whole = rw c.in-Some-with_sign.is at c.with_sign.ensures in
    inr (
      refl,
      c.in-Some-with_sign.z,
      (spelled.1 c.in-Some-with_sign.z).1
          (whole ∙ ap (signed c.in-Some.negative) value),
      inr (search rules),
    )

pub returns-clause-ok : goal.returns-clause-ok
returns-clause-ok c =
    let spelled = simp c.as_bytes.ensures.value at (rw c.in-Some.is at c.parts.ensures) in
    let value = rw c.in-Some-magnitude.is at c.magnitude.ensures in
    let whole = rw c.in-Some-with_sign.is at c.with_sign.ensures in
    let z = c.in-Some-with_sign.z in
    let fits : SFits w64 z = search rules in
    let low : c.args.least ≤ℤ z = omega (arith, ints) in
    let high : z ≤ℤ c.args.most = omega (arith, ints) in
    simp to_z-of_z ((spelled.1 z).1 (whole ∙ ap (signed c.in-Some.negative) value), low, high)
