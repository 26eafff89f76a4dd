use Rattle.mm_kit.proofs.LawFacts.{repeated}
use Rattle.mm_kit.proofs.laws.nothing_but_the_edition_changes.Goals as goal

pub returns : goal.returns
returns c = λ name kit p q stops h. repeated name kit p q stops h
