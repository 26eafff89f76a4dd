-- What a command that is applied does.
use Rattle.std.specs.Prelude.{◌≡◌, ◌⊎◌, ℕ, Bool, true, false, Some, None, ⊤}
use Rattle.mm_definitions.specs.Bounds.{current}
use Rattle.mm_definitions.specs.Faults.{memory, store, reopen, input}
use Rattle.mm_definitions.specs.Package.{Package}
use Rattle.mm_definitions.specs.Rules.{Meets}
use Rattle.mm_definitions.specs.Step.{refusal, step}
use Rattle.mm_definitions.specs.declared.answers.Answer.{Answer}
use Rattle.mm_definitions.specs.declared.answers.Answer.TheVariants as answers
use Rattle.mm_definitions.specs.declared.commands.Command.{Command}
use Rattle.mm_run.specs.Shown.{Shown}

-- settled for a package that meets the rules
abbrev pub IsSound : (Package → Type 0) → Package → Type 0
IsSound settled p = settled p × Meets current p

-- each database that may be left stands for this package
abbrev pub LeavesOnly : {D : Type 0} → Shown D → Package → Type 0
LeavesOnly {D} shows p = (db : D) → shows.may_leave db → shows.stands_for db p

-- each stands for the package as it was or, where nothing refuses the command, for the one that the step gives
abbrev pub LeavesEither : {D : Type 0} → Shown D → Package → Command → ℕ → Type 0
LeavesEither {D} shows p command moment =
    (db : D) → shows.may_leave db → shows.stands_for db p
    ⊎ ((refusal p command ≡ None) × shows.stands_for db (step p command moment))

-- what is answered, and what then is settled or may be left
abbrev pub IsApplied : {D : Type 0} → Package → Command → ℕ → Answer → Shown D → Type 0
IsApplied p command moment answers.Ok shows = (refusal p command ≡ None) × shows.settled (step p command moment)
IsApplied p command moment (answers.Refused why) shows = (refusal p command ≡ Some why) × shows.settled p
IsApplied p command moment (answers.Fault fault) shows = LeavesEither shows p command moment

-- a fault of a command: 90 want of memory, 91 the store, 92 open again
abbrev pub IsApplyFault : ℕ → Type 0
IsApplyFault fault = (fault ≡ memory.0) ⊎ (fault ≡ store.0) ⊎ (fault ≡ reopen.0)

-- what holds of the number where the answer is a fault
abbrev pub OnFault : Answer → (ℕ → Type 0) → Type 0
OnFault answers.Ok P = ⊤
OnFault (answers.Refused why) P = ⊤
OnFault (answers.Fault fault) P = P fault.0

-- it is no fault
abbrev pub IsAnswer : Answer → Type 0
IsAnswer answers.Ok = ⊤
IsAnswer (answers.Refused why) = ⊤
IsAnswer (answers.Fault fault) = ⊥

-- What an answer tells of a session that has to be opened again: whether it had to before, and has to now. One that had
-- to before is the same now, and accepts nothing; 92 comes only there, and after 91 it has to.
abbrev pub TellsReopening : Bool → Bool → Type 0 → Answer → Type 0
TellsReopening before failed same answers.Ok = (before ≡ false) × (failed ≡ false)
TellsReopening before failed same (answers.Refused why) = (failed ≡ before) × (before ≡ true → same)
TellsReopening before failed same (answers.Fault fault) =
    (fault.0 ≡ reopen.0 → before ≡ true) × (fault.0 ≡ store.0 → (before ≡ false) × (failed ≡ true))
    × (fault.0 ≡ input.0 → failed ≡ before) × (before ≡ true → same)
