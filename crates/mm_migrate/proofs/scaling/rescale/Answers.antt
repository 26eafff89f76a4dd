use Rattle.std.proofs.Common.{rules, Ok, Err}
use Rattle.sqlite.specs.Held.{state}
use Rattle.mm_store.proofs.Asking.{told_fault}
use Rattle.mm_migrate.specs.Moves.{IsRescaled}
use Rattle.mm_migrate.proofs.Committing.{committed, in_doubt}
use Rattle.mm_migrate.proofs.scaling.rescale.Goals as goal

pub returns-in-Ok-commit-clause-rescaled : goal.returns-in-Ok-commit-clause-rescaled
returns-in-Ok-commit-clause-rescaled g c =
    let end = c.commit.new.self.0 in
    let it : IsRescaled (state g.S.Store c.args.conn.now) (state g.S.Store end) (Ok tt) =
    committed g.S.Store c.args.conn.now c.transaction-tx.result.conn.now c.transaction-tx.ensures.begun
    (state g.S.Store c.scale_all.new.tx.conn.now) (state g.S.Store end)
    _ c.in-Ok.ensures.moved c.commit.ensures.survives (λ db. g.met.S.Store.settled end.store db)
    (λ clean. (c.in-Ok-commit.ensures.ok clean).1) in
    search rules

pub returns-in-Err-commit-clause-rescaled : goal.returns-in-Err-commit-clause-rescaled
returns-in-Err-commit-clause-rescaled g c =
    let end = c.commit.new.self.0 in
    let it : IsRescaled (state g.S.Store c.args.conn.now) (state g.S.Store end) (Err c.fault_of.result) =
    in_doubt g.S.Store c.args.conn.now c.transaction-tx.result.conn.now c.transaction-tx.ensures.begun
    (state g.S.Store c.scale_all.new.tx.conn.now) (state g.S.Store end)
    _ c.in-Ok.ensures.moved c.commit.ensures.survives c.fault_of.result
    (told_fault _ c.fault_of.result c.fault_of.ensures) in
    search rules
