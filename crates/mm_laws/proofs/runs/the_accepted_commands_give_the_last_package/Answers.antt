use Rattle.mm_laws.proofs.RunFacts.{run_accepted}
use Rattle.mm_laws.proofs.runs.the_accepted_commands_give_the_last_package.Goals as goal

pub returns : goal.returns
returns c = λ p calls. run_accepted calls p
