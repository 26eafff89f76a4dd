use Rattle.std.proofs.Common.{rules, Ok, ap, ◌∙◌}
use Rattle.sqlite.specs.Held.{state}
use Rattle.mm_definitions.specs.declared.answers.Answer.TheVariants as answer
use Rattle.mm_core.specs.Applied.{IsAppliedTo}
use Rattle.mm_core.proofs.Turns.{committed, in_doubt, refused, gave_up, store_fault}
use Rattle.mm_core.proofs.applying.run_transaction.Goals as goal

pub returns-in-Ok-commit-clause-applied : goal.returns-in-Ok-commit-clause-applied
returns-in-Ok-commit-clause-applied g c =
    let end = c.commit.new.self.0 in
    let it : IsAppliedTo c.args.command.now c.args.moment (state g.S.Store c.args.conn.now) (state g.S.Store end)
    answer.Ok =
    committed g.S.Store c.args.conn.now c.transaction-tx.result.conn.now c.transaction-tx.ensures.begun
    (state g.S.Store c.run_command.new.tx.conn.now) (state g.S.Store end) c.args.command.now c.args.moment
    c.run_command.result (c.run_command.ensures.tried c.args.moment c.requires.stamped)
    (c.in-Ok.is ∙ ap Ok c.in-Done.is) (λ db. g.met.S.Store.settled end.store db) c.commit.ensures.survives
    (λ clean. (c.in-Ok-commit.ensures.ok clean).1) in
    search rules

pub returns-in-Err-commit-clause-applied : goal.returns-in-Err-commit-clause-applied
returns-in-Err-commit-clause-applied g c =
    let end = c.commit.new.self.0 in
    let it : IsAppliedTo c.args.command.now c.args.moment (state g.S.Store c.args.conn.now) (state g.S.Store end)
    (answer.Fault c.fault_of.result) =
    in_doubt g.S.Store c.args.conn.now c.transaction-tx.result.conn.now c.transaction-tx.ensures.begun
    (state g.S.Store c.run_command.new.tx.conn.now) (state g.S.Store end) c.args.command.now c.args.moment
    c.run_command.result (c.run_command.ensures.tried c.args.moment c.requires.stamped)
    (c.in-Ok.is ∙ ap Ok c.in-Done.is) c.fault_of.result c.commit.ensures.survives in
    search rules

pub returns-in-Refused-clause-applied : goal.returns-in-Refused-clause-applied
returns-in-Refused-clause-applied g c =
    let end = c.rollback.new.self.0 in
    let it : IsAppliedTo c.args.command.now c.args.moment (state g.S.Store c.args.conn.now) (state g.S.Store end)
    (answer.Refused c.in-Refused.why) =
    refused g.S.Store c.args.conn.now c.transaction-tx.result.conn.now c.transaction-tx.ensures.begun
    (state g.S.Store c.run_command.new.tx.conn.now) (state g.S.Store end) c.args.command.now c.args.moment
    c.run_command.result (c.run_command.ensures.tried c.args.moment c.requires.stamped) c.rollback.ensures.survives
    c.in-Refused.why (c.in-Ok.is ∙ ap Ok c.in-Refused.is) c.rollback.ensures.undone in
    search rules

pub returns-in-Err-clause-applied : goal.returns-in-Err-clause-applied
returns-in-Err-clause-applied g c =
    let end = c.rollback-in-Err.new.self.0 in
    let it : IsAppliedTo c.args.command.now c.args.moment (state g.S.Store c.args.conn.now) (state g.S.Store end)
    (answer.Fault c.in-Err.fault) =
    gave_up g.S.Store c.args.conn.now c.transaction-tx.result.conn.now c.transaction-tx.ensures.begun
    (state g.S.Store c.run_command.new.tx.conn.now) (state g.S.Store end) c.args.command.now c.args.moment
    c.run_command.result (c.run_command.ensures.tried c.args.moment c.requires.stamped)
    c.rollback-in-Err.ensures.survives c.in-Err.fault in
    search rules

pub returns-in-Err-clause-faults : goal.returns-in-Err-clause-faults
returns-in-Err-clause-faults g c = store_fault c.run_command.result c.in-Err.fault c.in-Err.is
    (c.run_command.ensures.tried c.args.moment c.requires.stamped).faults
