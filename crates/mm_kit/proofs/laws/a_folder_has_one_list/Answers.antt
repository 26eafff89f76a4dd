use Rattle.std.specs.Prelude.{codes}
use Rattle.mm_kit.proofs.OneList.{one_list}
use Rattle.mm_kit.proofs.laws.a_folder_has_one_list.Goals as goal

pub returns : goal.returns
returns c = λ files a b h k. one_list (files (codes "kit.csv")) a b h k
