use Rattle.mm_laws.proofs.RunFacts.{refused_same}
use Rattle.mm_laws.proofs.runs.a_refused_command_changes_nothing.Goals as goal

pub returns : goal.returns
returns c = refused_same
