use Rattle.mm_definitions.specs.Bounds.{current}
use Rattle.mm_laws.proofs.Steps.{step_keeps}
use Rattle.mm_core.proofs.session.Session.apply.Goals as goal

pub returns-in-Err-clause-keeps : goal.returns-in-Err-clause-keeps
returns-in-Err-clause-keeps g c p meets = step_keeps current p c.args.command.now c.args.at meets c.is_within.ensures
    c.milliseconds-milliseconds.ensures.within

pub returns-clause-keeps : goal.returns-clause-keeps
returns-clause-keeps g c p meets = step_keeps current p c.args.command.now c.args.at meets c.is_within.ensures
    c.milliseconds-milliseconds.ensures.within
