use Rattle.mm_laws.proofs.FirstParts.{first_part_before}
use Rattle.mm_laws.proofs.runs.a_first_part_stays_one_where_more_follows.Goals as goal

pub returns : goal.returns
returns c = first_part_before
