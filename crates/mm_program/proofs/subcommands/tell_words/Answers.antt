use Rattle.std.proofs.Common.{subst}
use Rattle.mm_definitions.specs.Streams.{written}
use Rattle.mm_program.specs.Told.{TellsStatus}
use Rattle.mm_program.proofs.subcommands.tell_words.Goals as goal

pub returns-in-None-clause-told : goal.returns-in-None-clause-told
returns-in-None-clause-told g c =
    subst (λ status. TellsStatus status (written g.W.Write.contents c.args.output.now)
    (written g.W.Write.contents c.tell_stop.new.output) c.tell_stop.result)
    c.in-None.ensures.told c.tell_stop.ensures.told
