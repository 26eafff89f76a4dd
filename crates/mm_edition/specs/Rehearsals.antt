-- What a rehearsal answers, and that it changes nothing.
use Rattle.std.specs.Prelude.{◌≡◌, Some, None, Result, Ok, Err, IfErr, ⊤}
use Rattle.sqlite.specs.State.{State, HasCleanDisk}
use Rattle.mm_definitions.specs.Bounds.{Profile}
use Rattle.mm_definitions.specs.Keys.{Text}
use Rattle.mm_definitions.specs.Package.{Package}
use Rattle.mm_definitions.specs.Rules.{Meets}
use Rattle.mm_definitions.specs.Step.{refusal}
use Rattle.mm_definitions.specs.declared.answers.Fault.{Fault}
use Rattle.mm_definitions.specs.declared.answers.Outcome.{Outcome}
use Rattle.mm_definitions.specs.declared.answers.Outcome.TheVariants.{Done, Refused}
use Rattle.mm_definitions.specs.declared.commands.Command.TheVariants as commands
use Rattle.mm_store.specs.Seen.{IsSeenAs}
use Rattle.mm_store.specs.Stands.{IsSettled}
use Rattle.mm_definitions.specs.Faults.{IsStoreFault}
use Rattle.mm_store.specs.Statements.{CommitsNothing}

-- the answer is the refusal of the rehearsal, which is that of the publishing
abbrev pub TellsRefusal : Package → Text → Result Outcome Fault → Type 0
TellsRefusal p edition (Ok Done) = refusal p (commands.Rehearse edition) ≡ None
TellsRefusal p edition (Ok (Refused why)) = refusal p (commands.Rehearse edition) ≡ Some why
TellsRefusal p edition (Err fault) = ⊤

-- It commits nothing, leaves the connection reading as the package that it read as, and settled where it was, and
-- answers what publishing would be refused with, if anything.
pub record IsRehearsal (profile : Profile) (edition : Text) (old new : State) (result : Result Outcome Fault) : Type 0
  where
    pub survives : CommitsNothing old new
    pub seen : HasCleanDisk new → (p : Package) → Meets profile p → IsSeenAs profile old p → IsSeenAs profile new p
    pub settled : HasCleanDisk new → (p : Package) → Meets profile p → IsSettled profile old p → IsSettled profile new p
    pub answers : HasCleanDisk new → (p : Package) → Meets profile p → IsSeenAs profile old p
        → TellsRefusal p edition result
    pub faults : IfErr result IsStoreFault
