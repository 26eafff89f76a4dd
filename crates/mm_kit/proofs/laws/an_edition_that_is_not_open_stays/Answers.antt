use Rattle.mm_kit.proofs.LawFacts.{not_open}
use Rattle.mm_kit.proofs.laws.an_edition_that_is_not_open_stays.Goals as goal

pub returns : goal.returns
returns c = λ name kit p q h bad. not_open name kit p q h bad
