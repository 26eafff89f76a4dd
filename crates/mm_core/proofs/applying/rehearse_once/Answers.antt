use Rattle.std.proofs.Common.{ap, Ok, ◌∙◌}
use Rattle.mm_definitions.specs.Bounds.{current}
use Rattle.mm_core.proofs.Turns.{store_fault, rehearsed_well, rehearsed_refused, rehearsed_in_vain}
use Rattle.mm_core.proofs.applying.rehearse_once.Goals as goal

pub returns-in-Done-clause-applied : goal.returns-in-Done-clause-applied
returns-in-Done-clause-applied g c = rehearsed_well _ _ c.args.edition.now c.args.moment _
    (c.in-Ok.is ∙ ap Ok c.in-Done.is) (c.rehearse.ensures.rehearsed current c.args.moment c.requires.stamped)

pub returns-in-Refused-clause-applied : goal.returns-in-Refused-clause-applied
returns-in-Refused-clause-applied g c =
    rehearsed_refused _ _ c.args.edition.now c.args.moment _ c.in-Refused.why (c.in-Ok.is ∙ ap Ok c.in-Refused.is)
    (c.rehearse.ensures.rehearsed current c.args.moment c.requires.stamped)

pub returns-in-Err-clause-applied : goal.returns-in-Err-clause-applied
returns-in-Err-clause-applied g c = rehearsed_in_vain _ _ c.args.edition.now c.args.moment _ c.in-Err.fault
    (c.rehearse.ensures.rehearsed current c.args.moment c.requires.stamped)

pub returns-in-Err-clause-faults : goal.returns-in-Err-clause-faults
returns-in-Err-clause-faults g c = store_fault c.rehearse.result c.in-Err.fault c.in-Err.is
    (c.rehearse.ensures.rehearsed current c.args.moment c.requires.stamped).faults
