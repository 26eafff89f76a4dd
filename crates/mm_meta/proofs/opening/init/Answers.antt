use Rattle.std.proofs.Common.{rules, Ok, Err}
use Rattle.sqlite.specs.Held.{state}
use Rattle.mm_definitions.specs.Bounds.{current}
use Rattle.mm_store.proofs.Asking.{told_fault}
use Rattle.mm_meta.specs.Opening.{IsInit}
use Rattle.mm_meta.proofs.Committing.{init_made, init_in_doubt}
use Rattle.mm_meta.proofs.opening.init.Goals as goal

pub returns-in-Ok-commit-clause-init : goal.returns-in-Ok-commit-clause-init
returns-in-Ok-commit-clause-init g c =
    let end = c.commit.new.self.0 in
    let it : IsInit current (state g.S.Store c.args.conn.now) (state g.S.Store end) (Ok tt) =
    init_made current g.S.Store c.args.conn.now c.transaction-tx.result.conn.now c.transaction-tx.ensures.begun
    (state g.S.Store c.make.new.tx.conn.now) (state g.S.Store end)
    _ c.in-Ok.ensures.makes.made c.commit.ensures.survives c.in-Ok.ensures.again
    (λ db. g.met.S.Store.settled end.store db) (λ clean. (c.in-Ok-commit.ensures.ok clean).1) in
    search rules

pub returns-in-Err-commit-clause-init : goal.returns-in-Err-commit-clause-init
returns-in-Err-commit-clause-init g c =
    let end = c.commit.new.self.0 in
    let it : IsInit current (state g.S.Store c.args.conn.now) (state g.S.Store end) (Err c.fault_of.result) =
    init_in_doubt current g.S.Store c.args.conn.now c.transaction-tx.result.conn.now c.transaction-tx.ensures.begun
    (state g.S.Store c.make.new.tx.conn.now) (state g.S.Store end)
    _ c.in-Ok.ensures.makes.made c.commit.ensures.survives c.in-Ok.ensures.again c.fault_of.result
    (told_fault _ c.fault_of.result c.fault_of.ensures) in
    search rules
