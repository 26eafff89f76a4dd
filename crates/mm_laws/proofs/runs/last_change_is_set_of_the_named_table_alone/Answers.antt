use Rattle.mm_laws.proofs.LastChange.{last_change}
use Rattle.mm_laws.proofs.runs.last_change_is_set_of_the_named_table_alone.Goals as goal

pub returns : goal.returns
returns c = last_change
