use Rattle.mm_recovery.proofs.Crashed.{are_closed}
use Rattle.mm_recovery.proofs.Stopping.{not_closed}
use Rattle.mm_recovery.proofs.files.close_files.Goals as goal

pub returns-in-Ok-clause-closed : goal.returns-in-Ok-clause-closed
returns-in-Ok-clause-closed g c = are_closed g.met.D.Disk.seen_may_stay c.args.conn c.in-Ok.files c.in-Ok.ensures.copied

pub returns-in-Err-clause-not_closed : goal.returns-in-Err-clause-not_closed
returns-in-Err-clause-not_closed g c =
    not_closed c.args.conn c.in-Err.store c.in-Err.error c.stop_at.result c.stop_at.ensures.fault c.stop_at.ensures.rest
    c.in-Err.ensures.err.0 c.in-Err.ensures.err.1
