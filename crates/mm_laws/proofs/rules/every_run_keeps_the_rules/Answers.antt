use Rattle.mm_laws.proofs.Steps.{run_keeps}
use Rattle.mm_laws.proofs.rules.every_run_keeps_the_rules.Goals as goal

pub returns : goal.returns
returns c = λ profile p calls. run_keeps profile calls p
