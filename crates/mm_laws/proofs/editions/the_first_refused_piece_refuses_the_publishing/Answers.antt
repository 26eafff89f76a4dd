use Rattle.mm_laws.proofs.Closed.{publish_refused}
use Rattle.mm_laws.proofs.editions.the_first_refused_piece_refuses_the_publishing.Goals as goal

pub returns : goal.returns
returns c = publish_refused
