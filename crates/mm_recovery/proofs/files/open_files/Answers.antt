use Rattle.mm_recovery.proofs.Blank.{finds_no_table}
use Rattle.mm_recovery.proofs.Crashed.{finds_closed, finds_left}
use Rattle.mm_recovery.proofs.Stopping.{leads_back, not_opened}
use Rattle.mm_recovery.proofs.files.open_files.Goals as goal

pub returns-in-Ok-clause-new : goal.returns-in-Ok-clause-new
returns-in-Ok-clause-new g c =
    finds_no_table g.D.Disk c.args.files c.in-Ok.conn g.met.D.Disk.seen_may_stay c.in-Ok.ensures.opened
    c.in-Ok.ensures.found

pub returns-in-Ok-clause-found : goal.returns-in-Ok-clause-found
returns-in-Ok-clause-found g c =
    finds_left g.met.D.Disk.seen_may_stay c.in-Ok.conn c.args.files c.in-Ok.ensures.opened c.in-Ok.ensures.found

pub returns-in-Ok-clause-closed : goal.returns-in-Ok-clause-closed
returns-in-Ok-clause-closed g c =
    finds_closed g.met.D.Disk.seen_may_stay c.in-Ok.conn c.args.files c.in-Ok.ensures.opened c.in-Ok.ensures.found

pub returns-in-Err-clause-not_opened : goal.returns-in-Err-clause-not_opened
returns-in-Err-clause-not_opened g c =
    not_opened g.met.D.Disk.seen_may_stay c.args.files c.in-Err.rest c.in-Err.error c.stop_at.result
    c.stop_at.ensures.fault c.stop_at.ensures.rest c.in-Err.ensures.cause c.in-Err.ensures.unharmed

pub returns-in-Err-clause-left : goal.returns-in-Err-clause-left
returns-in-Err-clause-left g c =
    leads_back g.met.D.Disk.seen_may_stay c.args.files c.stop_at.result
    (not_opened g.met.D.Disk.seen_may_stay c.args.files c.in-Err.rest c.in-Err.error c.stop_at.result
    c.stop_at.ensures.fault c.stop_at.ensures.rest c.in-Err.ensures.cause c.in-Err.ensures.unharmed)
