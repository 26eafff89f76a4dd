use Rattle.mm_laws.proofs.Scaled.{contents_at, sets_at, matrices_at}
use Rattle.mm_laws.proofs.scale.each_entry_is_told_in_the_smaller_unit.Goals as goal

pub returns-clause-contents : goal.returns-clause-contents
returns-clause-contents c = contents_at

pub returns-clause-sets : goal.returns-clause-sets
returns-clause-sets c = sets_at

pub returns-clause-matrices : goal.returns-clause-matrices
returns-clause-matrices c = matrices_at
