use Rattle.mm_laws.proofs.RunFacts.{first_part_meets}
use Rattle.mm_laws.proofs.rules.every_first_part_keeps_the_rules.Goals as goal

pub returns : goal.returns
returns c = λ profile p q calls a. first_part_meets profile calls p q a
