use Rattle.mm_base.proofs.RecordFacts.{command_within}
use Rattle.mm_base.proofs.records.read_command.Goals as goal

pub returns-clause-within : goal.returns-clause-within
returns-clause-within c = command_within c.command_in.result _ _ c.command_in.ensures
