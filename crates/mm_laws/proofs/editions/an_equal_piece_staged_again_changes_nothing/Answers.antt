use Rattle.mm_laws.proofs.Again.{stage_again}
use Rattle.mm_laws.proofs.editions.an_equal_piece_staged_again_changes_nothing.Goals as goal

pub returns : goal.returns
returns c = stage_again
