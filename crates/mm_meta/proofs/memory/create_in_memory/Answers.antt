use Rattle.sqlite.proofs.Callers.{memory_is_clean}
use Rattle.mm_meta.proofs.memory.create_in_memory.Goals as goal

pub returns-clause-settled : goal.returns-clause-settled
returns-clause-settled c = c.in_ok-init.ensures.init.made (memory_is_clean c.init.new.conn) c.in-Ok.ensures.blank
