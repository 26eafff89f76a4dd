use Rattle.mm_laws.proofs.Closed.{edition_new}
use Rattle.mm_laws.proofs.editions.a_new_edition_is_open_and_holds_no_pieces.Goals as goal

pub returns : goal.returns
returns c = edition_new
