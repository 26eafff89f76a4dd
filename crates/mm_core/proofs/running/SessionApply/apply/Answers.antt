use Rattle.std.proofs.Common.{ap}
use Rattle.sqlite.specs.Held.{state}
use Rattle.mm_core.specs.Parts.{connection, must_reopen}
use Rattle.mm_core.proofs.Applies.{applied_seen}
use Rattle.mm_core.proofs.running.SessionApply.apply.Goals as goal

pub returns-clause-applied : goal.returns-clause-applied
returns-clause-applied g c clean p seen meets =
    applied_seen _ _ c.args.command.now c.args.at p _ c.apply.result (must_reopen c.args.self.now)
    (λ was. let it = c.apply.ensures.ended was in (it.0, ap (λ s. state g.S.Store (connection s)) it.1))
    c.apply.ensures.applied clean seen meets
