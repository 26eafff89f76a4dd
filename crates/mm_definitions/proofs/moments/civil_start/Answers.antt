use Rattle.mm_definitions.proofs.Dates.{start_is}
use Rattle.mm_definitions.proofs.moments.civil_start.Goals as goal

pub returns : goal.returns
returns c = start_is c.date.result c.date.ensures
