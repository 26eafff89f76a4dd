use Rattle.mm_laws.proofs.Closed.{rehearse_same}
use Rattle.mm_laws.proofs.editions.a_rehearsal_changes_nothing.Goals as goal

pub returns : goal.returns
returns c = rehearse_same
