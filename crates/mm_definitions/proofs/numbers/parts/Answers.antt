use Rattle.std.proofs.Common.{◌≡◌, ◌∷◌, [], rules}
use Rattle.mm_definitions.specs.Numbers.{value_from}
use Rattle.mm_definitions.proofs.NumberFacts.{zero-digits, zero-spells}
use Rattle.mm_definitions.proofs.numbers.parts.Goals as goal

pub returns-then-eq : goal.returns-then-eq
unfolding value_from
returns-then-eq c =
    let is : c.args.text.now ≡ 48 ∷ [] = search rules in
    rw is (zero-digits, zero-spells)
