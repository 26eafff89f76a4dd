use Rattle.sqlite.specs.Files.{file_state}
use Rattle.mm_definitions.specs.Streams.{written}
use Rattle.mm_recovery.proofs.Lived.{has_lived}
use Rattle.mm_recovery.proofs.life.live.Goals as goal

pub returns-clause-lived : goal.returns-clause-lived
returns-clause-lived g c =
    has_lived g.D.Disk c.args.files (file_state c.in-Ok.made.conn) (file_state c.run_list.new.self.conn)
    (file_state c.in-Ok-close_and_adopt.again.conn) (file_state c.run_list-2.new.self.conn) c.args.at _ _ _
    (written g.W.Write.contents c.run_list.new.writer) _
    c.run_list.new.self.failed c.run_list-2.new.self.failed c.in-Ok-run_list._ran c.in-Ok-run_list-2._ran_again
    c.in-Ok.ensures.made
    c.run_list.ensures.runs.clean c.in-Ok-run_list.ensures.settled.done c.in-Ok-close_and_adopt.ensures.reopened
    c.run_list-2.ensures.runs.clean c.in-Ok-run_list-2.ensures.settled.done
