-- A command that was read and applied keeps the rules.
use Rattle.std.proofs.Common.{ℕ, Ok}
use Rattle.mm_definitions.specs.Bounds.{IsMoment, current}
use Rattle.mm_definitions.specs.Package.{Package}
use Rattle.mm_definitions.specs.Records.{HoldsAgainst, Spells}
use Rattle.mm_definitions.specs.Rules.{Meets}
use Rattle.mm_definitions.specs.Step.{step}
use Rattle.mm_definitions.specs.Within.{IsWithin}
use Rattle.mm_definitions.specs.declared.commands.Command.{Command}
use Rattle.mm_base.proofs.RecordFacts.{command_within}
use Rattle.mm_laws.proofs.Steps.{step_keeps}
use Rattle.mm_io.specs.Records.{Record}

pub spelled_within : (fields : Record) (c : Command) → Spells current fields c → IsWithin current c
spelled_within fields c h = command_within (Ok c) (HoldsAgainst current fields) fields h

pub step_meets : (p : Package) (c : Command) (moment : ℕ) → IsMoment moment → Meets current p → IsWithin current c
    → Meets current (step p c moment)
step_meets p c moment low meets within = step_keeps current p c moment meets within low
