use Rattle.mm_kit.proofs.LawFacts.{published, repeated}
use Rattle.mm_kit.proofs.laws.publishing_after_repeats_publishes_the_kit.Goals as goal

pub returns : goal.returns
returns c = λ name kit p q stops stamp h has. (repeated name kit p q stops h, published q name kit stamp has)
