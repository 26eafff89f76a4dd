use Rattle.mm_laws.proofs.FirstParts.{whole_part}
use Rattle.mm_laws.proofs.runs.the_last_package_is_a_first_part.Goals as goal

pub returns : goal.returns
returns c = whole_part
