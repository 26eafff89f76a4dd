use Rattle.std.proofs.Common.{pos}
use Rattle.mm_definitions.specs.Bounds.{current}
use Rattle.mm_definitions.specs.Within.{IsWithin}
use Rattle.mm_definitions.specs.declared.commands.Command.TheVariants as commands
use Rattle.mm_laws.proofs.Steps.{step_keeps}
use Rattle.mm_kit.proofs.staging.stage_piece.Goals as goal

pub returns-clause-keeps : goal.returns-clause-keeps
returns-clause-keeps g c p meets =
    let command = commands.Stage c.args.edition.now (pos c.args.number) c.args.piece in
    let within : IsWithin current command = rw (← c.in-Ok.ensures.cases, ← c.id_of.ensures) c.is_within.ensures in
    step_keeps current p command c.args.at meets within c.milliseconds-milliseconds.ensures.within

pub returns-clause-applied : goal.returns-clause-applied
returns-clause-applied g c clean p seen meets =
    rw (← c.in-Ok.ensures.cases, ← c.id_of.ensures) (c.apply.ensures.applied clean p seen meets)
