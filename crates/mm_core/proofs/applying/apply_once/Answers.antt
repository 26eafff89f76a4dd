use Rattle.sqlite.specs.Held.{state}
use Rattle.mm_core.proofs.Turns.{not_begun}
use Rattle.mm_core.proofs.applying.apply_once.Goals as goal

pub returns-in-Err-clause-applied : goal.returns-in-Err-clause-applied
returns-in-Err-clause-applied g c = not_begun (state g.S.Store c.args.conn.now) c.args.command.now c.args.moment
    (record { 0 = 90 })
