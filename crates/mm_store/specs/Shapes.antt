-- What a command comes to that is lent a transaction, and how it is tried by one that rolls back after a refusal.
use Rattle.std.specs.Prelude.{◌≡◌, ℕ, ⊤, Option, Some, None, Result, Ok, Err, IfErr, IsTrue}
use Rattle.sqlite.specs.State.{State, HasCleanDisk}
use Rattle.mm_definitions.specs.Bounds.{Profile}
use Rattle.mm_definitions.specs.Package.{Package}
use Rattle.mm_definitions.specs.Rules.{Meets}
use Rattle.mm_definitions.specs.Step.{refusal, step}
use Rattle.mm_definitions.specs.declared.answers.Fault.{Fault}
use Rattle.mm_definitions.specs.declared.answers.Outcome.{Outcome}
use Rattle.mm_definitions.specs.declared.answers.Outcome.TheVariants.{Done, Refused}
use Rattle.mm_definitions.specs.Refusals.{Refusal}
use Rattle.mm_definitions.specs.declared.commands.Command.{Command}
use Rattle.mm_store.specs.Stands.{Ground, StandsOn, StandsInside}
use Rattle.mm_definitions.specs.Faults.{IsStoreFault}
use Rattle.mm_store.specs.Statements.{CommitsNothing}

-- done only where it is not refused, and then the transaction stands for the package after it
abbrev pub IsDone : Profile → State → Ground → Option Refusal → Package → Type 0
IsDone profile new ground refusal next = (refusal ≡ None) × IsTrue new.is_open × StandsInside profile new ground next

-- why the command was refused, if it was
abbrev pub refused_as : Outcome → Option Refusal
refused_as Done = None
refused_as (Refused why) = Some why

-- `Done` as above; `Refused` only with this refusal, and a fault says nothing
abbrev pub Tries : Profile → State → Ground → Package → Option Refusal → Package → Result Outcome Fault → Type 0
Tries profile new ground p refusal next (Ok Done) = IsDone profile new ground refusal next
Tries profile new ground p refusal next (Ok (Refused why)) = refusal ≡ Some why
Tries profile new ground p refusal next (Err fault) = ⊤

-- The command comes to a transaction that stands for a package that meets the rules.
pub record ComesTo (profile : Profile) (s : State) (ground : Ground) (p : Package) : Type 0 where
  pub meets : Meets profile p
  pub inside : StandsInside profile s ground p

module _ (profile : Profile) (c : Command) (moment : ℕ) (old new : State) (result : Result Outcome Fault) where
  -- a command whose transaction is rolled back after a refusal: `on` says that a rollback goes back to where it did,
  -- after a fault too
  pub record IsTried : Type 0 where
    pub survives : CommitsNothing old new
    pub on : HasCleanDisk new → (ground : Ground) (p : Package) → ComesTo profile old ground p → StandsOn new ground
    pub tries : HasCleanDisk new → (ground : Ground) (p : Package) → ComesTo profile old ground p
        → Tries profile new ground p (refusal p c) (step p c moment) result
    pub faults : IfErr result IsStoreFault
