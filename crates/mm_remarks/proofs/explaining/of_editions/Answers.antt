use Rattle.std.proofs.Common.{rules, arith}
use Rattle.std.proofs.lemmas.Grind.{common_steps}
use Rattle.mm_remarks.specs.Words.{of_editions}
use Rattle.mm_remarks.proofs.explaining.of_editions.Goals as goal

pub returns : goal.returns
unfolding of_editions
returns c = first_of (search rules, grind (arith, common_steps))
