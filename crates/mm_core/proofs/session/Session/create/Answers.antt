use Rattle.sqlite.specs.Held.{state}
use Rattle.mm_core.proofs.Creating.{created_by, not_created_by}
use Rattle.mm_core.proofs.session.Session.create.Goals as goal

pub returns-in-Ok-clause-created : goal.returns-in-Ok-clause-created
returns-in-Ok-clause-created g c = created_by (state g.S.Store c.args.conn) (state g.S.Store c.init.new.conn)
    c.in-Ok.ensures.init

pub returns-in-Err-clause-not_created : goal.returns-in-Err-clause-not_created
returns-in-Err-clause-not_created g c = not_created_by (state g.S.Store c.args.conn) (state g.S.Store c.init.new.conn)
    c.in-Err.fault c.in-Err.ensures.init
