use Rattle.std.proofs.lemmas.Result.{err_from_is_err_and}
use Rattle.sqlite.specs.Held.{state}
use Rattle.mm_migrate.proofs.Ends.{stopped, done, in_doubt}
use Rattle.mm_migrate.proofs.migrating.migrate_older.Goals as goal

pub returns-in_err-check_whole-clause-older : goal.returns-in_err-check_whole-clause-older
returns-in_err-check_whole-clause-older g c =
    let p = err_from_is_err_and c.from_residual.result c.from_residual.ensures.1 in
    rw (p.1, p.2) (stopped (state g.S.Store c.args.conn.now) (state g.S.Store c.check_whole.new.conn)
    c.in_err-check_whole.field-0.0 c.in_err-check_whole.ensures)

pub returns-in-Ok-clause-older : goal.returns-in-Ok-clause-older
returns-in-Ok-clause-older g c =
    done (state g.S.Store c.args.conn.now) (state g.S.Store c.check_whole.new.conn) (state g.S.Store c.rescale.new.conn)
    c.in_ok-check_whole.ensures c.in-Ok.ensures.rescaled

pub returns-in-Err-clause-older : goal.returns-in-Err-clause-older
returns-in-Err-clause-older g c =
    in_doubt (state g.S.Store c.args.conn.now) (state g.S.Store c.check_whole.new.conn)
    (state g.S.Store c.rescale.new.conn) c.in_ok-check_whole.ensures c.in-Err.fault c.in-Err.ensures.rescaled
