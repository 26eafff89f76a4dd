use Rattle.sqlite.specs.Held.{state}
use Rattle.mm_core.proofs.Adopting.{adopts, check_fails, look_failed}
use Rattle.mm_core.proofs.session.Session.adopt.Goals as goal

pub returns-in-Err-clause-not_adopted : goal.returns-in-Err-clause-not_adopted
returns-in-Err-clause-not_adopted g c =
    look_failed (state g.S.Store c.args.conn) (state g.S.Store c.look.new.conn) c.in-Err.open c.in-Err.ensures.looked

pub returns-in-Ok-check_whole-clause-adopted : goal.returns-in-Ok-check_whole-clause-adopted
returns-in-Ok-check_whole-clause-adopted g c =
    adopts (state g.S.Store c.args.conn) (state g.S.Store c.look.new.conn) (state g.S.Store c.check_whole.new.conn)
    c.in-Ok.ensures.looked c.in-Ok-check_whole.ensures

pub returns-in-Err-check_whole-clause-not_adopted : goal.returns-in-Err-check_whole-clause-not_adopted
returns-in-Err-check_whole-clause-not_adopted g c =
    check_fails (state g.S.Store c.args.conn) (state g.S.Store c.look.new.conn)
    (state g.S.Store c.check_whole.new.conn) c.in-Ok.ensures.looked c.in-Err-check_whole.why
    c.in-Err-check_whole.ensures
