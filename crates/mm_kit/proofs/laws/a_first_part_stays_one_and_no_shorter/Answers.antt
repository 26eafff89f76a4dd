use Rattle.mm_kit.proofs.LawFacts.{first}
use Rattle.mm_kit.proofs.laws.a_first_part_stays_one_and_no_shorter.Goals as goal

pub returns : goal.returns
returns c = λ name kit p q old h has front. first name kit p q old h has front
