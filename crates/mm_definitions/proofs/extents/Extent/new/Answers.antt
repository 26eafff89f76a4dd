use Rattle.std.proofs.Common.{arith, refl}
use Rattle.std.proofs.lemmas.Int.{ints}
use Rattle.mm_definitions.proofs.extents.Extent.new.Goals as goal

pub returns-then-min_y-max_y-clause-within : goal.returns-then-min_y-max_y-clause-within
returns-then-min_y-max_y-clause-within c = (
  λ _. record {
    min_x = grind (arith, ints);
    min_y = grind (arith, ints);
    max_x = grind (arith, ints);
    max_y = grind (arith, ints);
    across = grind (arith, ints);
    down = grind (arith, ints);
  },
  λ _. refl,
)

pub invariant_of-result : goal.invariant_of-result
invariant_of-result c = record {
  min_x = grind (arith, ints);
  min_y = grind (arith, ints);
  max_x = grind (arith, ints);
  max_y = grind (arith, ints);
  across = grind (arith, ints);
  down = grind (arith, ints);
}
