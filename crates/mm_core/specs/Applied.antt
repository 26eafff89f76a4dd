-- What a command that is committed by itself does to a connection.
use Rattle.std.specs.Prelude.{◌≡◌, ℕ, Bool, None, Some, IsTrue, false, ⊤}
use Rattle.sqlite.specs.Tree.{Trees}
use Rattle.sqlite.specs.State.{State, HasCleanDisk, Survives}
use Rattle.mm_definitions.specs.Bounds.{current}
use Rattle.mm_definitions.specs.Package.{Package}
use Rattle.mm_definitions.specs.Rules.{Meets}
use Rattle.mm_definitions.specs.Step.{refusal, step}
use Rattle.mm_definitions.specs.declared.answers.Answer.{Answer}
use Rattle.mm_definitions.specs.declared.answers.Answer.TheVariants as answers
use Rattle.mm_definitions.specs.declared.commands.Command.{Command}
use Rattle.mm_store.specs.Seen.{IsSeenAs}
use Rattle.mm_store.specs.Stands.{StandsFor, IsSettled}
use Rattle.mm_run.specs.Answers.{is_fault}
use Rattle.mm_run.specs.Applied as run
use Rattle.mm_run.specs.Shown.{Shown}
use Rattle.mm_definitions.specs.CommandGroups.{rehearses}

-- the database stands for the package, in the profile of this program
abbrev pub StandsForCurrent : Trees → Package → Type 0
StandsForCurrent db p = StandsFor current.version db p

-- what a session on a connection in this state shows, by whether it has to be opened again
abbrev pub shown_on : Bool → State → Shown Trees
shown_on failed s = record {
  failed = failed;
  settled = λ p. IsSettled current s p;
  may_leave = λ db. s.may_leave db;
  stands_for = StandsForCurrent;
}

-- it reads as a package that meets the rules
pub record IsSeenFor (old : State) (p : Package) : Type 0 where
  pub seen : IsSeenAs current old p
  pub meets : Meets current p

-- settled for a package that meets the rules
pub record IsSettledFor (old : State) (p : Package) : Type 0 where
  pub settled : IsSettled current old p
  pub meets : Meets current p

-- the step of whatever package the connection reads as, where nothing refuses the command
abbrev pub IsStepOf : State → Command → ℕ → Trees → Type 0
IsStepOf old c moment db = (p : Package) → IsSeenFor old p → (refusal p c ≡ None)
    × StandsForCurrent db (step p c moment)

-- what the call may commit: nothing where the command is refused
abbrev pub MayCommit : State → Command → ℕ → Answer → Trees → Type 0
MayCommit old c moment (answers.Refused why) = λ _. ⊥
MayCommit old c moment answers.Ok = IsStepOf old c moment
MayCommit old c moment (answers.Fault fault) = IsStepOf old c moment

-- What is answered on a connection that reads as a package, and what it reads as then. What is done for good, as all
-- but a rehearsal is, is all that a crash leaves.
abbrev pub IsAppliedAsSeen : Package → Command → ℕ → Answer → State → Type 0
IsAppliedAsSeen p c moment answers.Ok new =
    (refusal p c ≡ None) × IsSeenAs current new (step p c moment)
    × (rehearses c ≡ false → IsSettled current new (step p c moment))
IsAppliedAsSeen p c moment (answers.Refused why) new = (refusal p c ≡ Some why) × IsSeenAs current new p
IsAppliedAsSeen p c moment (answers.Fault fault) new = ⊤

-- the store is open after a command that is done for good; a rehearsal may close it as it is rolled back
abbrev pub StaysOpen : Command → State → Answer → Type 0
StaysOpen c new answers.Ok = rehearses c ≡ false → IsTrue new.is_open
StaysOpen c new _ = ⊤

-- `Ok` settles the connection for the step, a refusal for the package as it was; after a fault each database that may
-- be left stands for the one or, where nothing refuses the command, for the other, and a session on it has to be opened
-- again. A connection that reads as a package, whatever a crash would leave, is answered the same; a refusal commits
-- nothing anywhere.
pub record IsAppliedTo (c : Command) (moment : ℕ) (old new : State) (answer : Answer) : Type 0 where
  pub survives : Survives old new (MayCommit old c moment answer)
  pub stays_open : HasCleanDisk new → StaysOpen c new answer
  pub seen : HasCleanDisk new → (p : Package) → IsSeenFor old p → IsAppliedAsSeen p c moment answer new
  pub answers : HasCleanDisk new → (p : Package) → IsSettledFor old p
      → run.IsApplied p c moment answer (shown_on (is_fault answer) new)
