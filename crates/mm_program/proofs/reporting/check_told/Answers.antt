use Rattle.mm_program.proofs.Ended.{checked}
use Rattle.mm_program.proofs.reporting.check_told.Goals as goal

pub returns-clause-told : goal.returns-clause-told
returns-clause-told g c =
    let it = c.on_old-outcome.ensures.worked in
    (c.on_old-outcome.result.0, checked it, c.tell_check.ensures.told, it.files)
