use Rattle.mm_laws.proofs.FirstParts.{first_part_after}
use Rattle.mm_laws.proofs.runs.a_first_part_of_the_rest_is_one_of_the_whole.Goals as goal

pub returns : goal.returns
returns c = first_part_after
