use Rattle.mm_laws.proofs.RunFacts.{one_or_none}
use Rattle.mm_laws.proofs.runs.one_command_is_done_wholly_or_not_at_all.Goals as goal

pub returns : goal.returns
returns c = one_or_none
