use Rattle.mm_program.proofs.Ended.{made}
use Rattle.mm_program.proofs.subcommands.init_told.Goals as goal

pub returns-clause-told : goal.returns-clause-told
returns-clause-told g c =
    let it = c.on_new-outcome.ensures.worked in
    (c.on_new-outcome.result.0, made it, c.tell_init.ensures.told, it.files, c.on_new-outcome.ensures.bare)
