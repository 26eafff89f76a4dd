use Rattle.mm_kit.proofs.LawFacts.{others}
use Rattle.mm_kit.proofs.laws.other_pieces_stay.Goals as goal

pub returns : goal.returns
returns c = λ name kit p q old h has bad. others name kit p q old h has bad
