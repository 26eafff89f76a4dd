use Rattle.mm_program.proofs.Off.{not_bare, not_done}
use Rattle.mm_program.proofs.files.on_length.Goals as goal

pub returns-in-Ok-clause-worked : goal.returns-in-Ok-clause-worked
returns-in-Ok-clause-worked g c =
    let it = c.in-Ok.ensures.worked in record { ended = it.came; files = (it.there, it.worked); unprinted = tt }

pub returns-in-Ok-clause-bare : goal.returns-in-Ok-clause-bare
returns-in-Ok-clause-bare g c = c.in-Ok.ensures.worked.bare

pub returns-in-Err-clause-worked : goal.returns-in-Err-clause-worked
returns-in-Err-clause-worked g c =
    rw c.stop_of.ensures (not_done _ _ _ _ _ _ _ _ _ _ _ _ c.in-Err.ensures.unworked)

pub returns-in-Err-clause-bare : goal.returns-in-Err-clause-bare
returns-in-Err-clause-bare g c none = not_bare _ _ _ _ c.in-Err.ensures.unworked.left
