use Rattle.mm_laws.proofs.Closed.{publish_closes}
use Rattle.mm_laws.proofs.editions.an_accepted_publishing_closes_the_edition.Goals as goal

pub returns : goal.returns
returns c = publish_closes
