use Rattle.std.proofs.Common.{rules}
use Rattle.sqlite.specs.Held.{state}
use Rattle.mm_edition.specs.Rehearsals.{IsRehearsal}
use Rattle.mm_edition.specs.Quiet.{IsQuiet}
use Rattle.mm_edition.proofs.Rehearsed.{rehearsed, rehearsed_quiet}
use Rattle.mm_edition.proofs.Tries.{publish_quiet, publish_tried}
use Rattle.mm_edition.proofs.rehearsing.rehearse.Goals as goal

pub returns-clause-any_text : goal.returns-clause-any_text
returns-clause-any_text g c =
    let end = c.rollback.new.self.0 in
    let it : IsQuiet (state g.S.Store c.args.conn.now) (state g.S.Store end) c.publish-outcome.result =
    rehearsed_quiet g.S.Store c.args.conn.now c.transaction-tx.result.conn.now c.transaction-tx.ensures.begun
    (state g.S.Store c.publish-outcome.new.tx.conn.now) (state g.S.Store end)
    c.publish-outcome.result (publish_quiet c.publish-outcome.ensures) c.rollback.ensures.survives in
    search rules

pub returns-clause-rehearsed : goal.returns-clause-rehearsed
returns-clause-rehearsed g c profile moment stamped =
    let end = c.rollback.new.self.0 in
    let it : IsRehearsal profile c.args.edition.now (state g.S.Store c.args.conn.now) (state g.S.Store end)
    c.publish-outcome.result =
    rehearsed g.S.Store c.args.conn.now c.transaction-tx.result.conn.now c.transaction-tx.ensures.begun
    (state g.S.Store c.publish-outcome.new.tx.conn.now) (state g.S.Store end) profile c.args.edition.now moment
    c.publish-outcome.result (publish_tried c.publish-outcome.ensures profile moment stamped)
    c.rollback.ensures.survives c.rollback.ensures.undone in
    search rules
