use Rattle.mm_laws.proofs.Numbered.{numbered}
use Rattle.mm_laws.proofs.refusals.every_refusal_has_a_number_of_the_table.Goals as goal

pub returns : goal.returns
returns c = numbered
