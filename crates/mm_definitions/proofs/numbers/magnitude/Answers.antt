use Rattle.std.proofs.Common.{◌≡◌, ◌≤◌, ◌+◌, ◌-◌, ◌*◌, ◌∙◌, drop, sym, arith, [], ◌^◌}
use Rattle.std.specs.Prelude.{get_or}
use Rattle.std.proofs.lemmas.List.{drop_all}
use Rattle.mm_definitions.specs.Numbers.{value_from}
use Rattle.mm_definitions.proofs.NumberFacts.{value-le, value-step}
use Rattle.mm_definitions.proofs.numbers.magnitude.Goals as goal

pub returns-in_default : goal.returns-in_default
returns-in_default c =
    let digits = c.args.digits.now in
    let more = value-step c.loop-d.n c.loop-d.d-index digits c.loop-d-test.true in
    let past = rw c.in_default.is at c.checked_mul.ensures in
    let high : 2 ^ 64 ≤ c.loop-d.n * 10 = omega (arith, past) in
    omega (
      arith,
      high,
      c.loop-d.invariant,
      more,
      value-le (10 * c.loop-d.n + (get_or digits c.loop-d.d-index 0 - 48))
          (drop (c.loop-d.d-index + 1) digits),
    )

pub returns-in_default-checked_add : goal.returns-in_default-checked_add
returns-in_default-checked_add c =
    let digits = c.args.digits.now in
    let more = value-step c.loop-d.n c.loop-d.d-index digits c.loop-d-test.true in
    let tens : c.in-Some.tens ≡ c.loop-d.n * 10 = c.in-Some.ensures.1 in
    let past = rw c.in_default-checked_add.is at c.checked_add.ensures in
    let high : 2 ^ 64 ≤ c.in-Some.tens + (get_or digits c.loop-d.d-index 0 - 48) = omega (arith, past) in
    omega (
      arith,
      high,
      tens,
      c.loop-d.invariant,
      more,
      value-le
          (10 * c.loop-d.n + (get_or digits c.loop-d.d-index 0 - 48)) (drop (c.loop-d.d-index + 1) digits),
    )

pub loop-d-preserved : goal.loop-d-preserved
loop-d-preserved c =
    let digits = c.args.digits.now in
    let more = value-step c.loop-d.n c.loop-d.d-index digits c.loop-d-test.true in
    let next : c.in-Some-checked_add.next ≡ 10 * c.loop-d.n + (get_or digits c.loop-d.d-index 0 - 48) =
    omega (arith, c.in-Some-checked_add.ensures.1, c.in-Some.ensures.1) in
    rw next (sym more ∙ c.loop-d.invariant)

pub returns : goal.returns
unfolding value_from
returns c =
    let none : drop c.loop-d.d-index c.args.digits.now ≡ [] = drop_all c.loop-d.d-index c.args.digits.now
    (omega arith) in
    rw none at c.loop-d.invariant
