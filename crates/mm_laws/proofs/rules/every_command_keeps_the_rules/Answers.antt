use Rattle.mm_laws.proofs.Steps.{step_keeps}
use Rattle.mm_laws.proofs.rules.every_command_keeps_the_rules.Goals as goal

pub returns : goal.returns
returns c = step_keeps
