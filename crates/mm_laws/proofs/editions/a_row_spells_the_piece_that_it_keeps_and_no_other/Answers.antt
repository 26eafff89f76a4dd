use Rattle.mm_laws.proofs.Again.{spells}
use Rattle.mm_laws.proofs.editions.a_row_spells_the_piece_that_it_keeps_and_no_other.Goals as goal

pub returns : goal.returns
returns c = spells
