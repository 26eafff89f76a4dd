use Rattle.std.proofs.Common.{◌≡◌, drop}
use Rattle.mm_definitions.specs.Numbers.{value_from}
use Rattle.mm_definitions.proofs.numbers.magnitude.Given as goal

abbrev pub invariant-loop-d : goal.invariant-loop-d
invariant-loop-d l = value_from l.n (drop l.d-index l.digits) ≡ value_from 0 l.digits
