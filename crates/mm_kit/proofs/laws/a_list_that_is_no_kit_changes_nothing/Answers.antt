use Rattle.mm_kit.proofs.LawFacts.{no_kit}
use Rattle.mm_kit.proofs.laws.a_list_that_is_no_kit_changes_nothing.Goals as goal

pub returns : goal.returns
returns c = λ files at name p q h. no_kit name p q h
