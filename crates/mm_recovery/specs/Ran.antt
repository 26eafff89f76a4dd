-- What a run tells whose files are then lost.
use Rattle.std.specs.Prelude.{◌≡◌, ◌≢◌, ℕ, Bool, false, true, ⊤, List, Option, Result, Ok, Err}
use Rattle.sqlite_disk.specs.declared.Disk.{Ghosts}
use Rattle.sqlite_store.specs.declared.store.FileStore.{FileStore}
use Rattle.sqlite.specs.Held.{Held}
use Rattle.sqlite.specs.Files.{file_state}
use Rattle.sqlite.specs.State.{State, HasCleanDisk}
use Rattle.sqlite.specs.declared.file.Leftover.{Leftover}
use Rattle.mm_definitions.specs.Faults as faults
use Rattle.mm_definitions.specs.Bounds.{current}
use Rattle.mm_definitions.specs.Package.{Package}
use Rattle.mm_definitions.specs.Streams.{Written}
use Rattle.mm_definitions.specs.declared.answers.RunFault.{RunFault}
use Rattle.mm_definitions.specs.declared.answers.Tally.{Tally}
use Rattle.mm_definitions.specs.Faults.{IsStoreFault}
use Rattle.mm_store.specs.Stands.{IsSettled}
use Rattle.mm_core.specs.Runs.{OnRun, RanAll, RanSome, WorksOn}
use Rattle.mm_core.specs.Shown.{Shown}
use Rattle.mm_core.specs.Applied.{shown_on}
use Rattle.mm_recovery.specs.Recovered.{IsFault}
use Rattle.mm_recovery.specs.Stops.{LeadsTo, TellsNoLie, fault_in, rest_of}
use Rattle.mm_recovery.specs.declared.stops.NotBegun.{NotBegun}
use Rattle.mm_recovery.specs.declared.stops.NotBegun.TheVariants as begun

-- what is shown by what was found in place of each database that a crash might leave
abbrev pub shown_again : State → Shown (Unit {0})
shown_again again =
    record {
      failed = false;
      settled = λ p. IsSettled current again p;
      may_leave = λ _. ⊤;
      stands_for = λ _ p. IsSettled current again p;
    }

-- Of a run on a session that had to be opened again before or not, from a package at a moment, on these bytes, with the
-- writer before and after.
module _ (before : Bool) (p : Package) (moment : ℕ) (bytes : List ℕ) (old new : Written) where
  -- What the run tells (`RanAll`, `RanSome`: the records that were read, the text that was written, the tally), with
  -- what was found: it is settled for the package of a first part of the accepted commands, with every one in it whose
  -- line was written whole. Where the reader failed (96) that is the package after the answers that were given, unless
  -- the session had to be opened again before; at 91 it is not: one more command was read, and has failed.
  abbrev pub RanAndFound : Result Tally RunFault → State → Type 0
  RanAndFound (Ok tally) again = RanAll p moment bytes (shown_again again) old new tally
  RanAndFound (Err stopped) again =
      RanSome p moment bytes (λ q. IsSettled current again q × (stopped.fault.0 ≢ faults.store.0))
      (stopped.fault.0 ≡ faults.input.0 → before ≡ true) (shown_again again) old new stopped

  -- the same with what the session shows where it ended
  abbrev pub RanThen : {D : Type 0} → Shown D → Result Tally RunFault → Type 0
  RanThen shows (Ok tally) = RanAll p moment bytes shows old new tally
  RanThen shows (Err stopped) =
      RanSome p moment bytes (WorksOn before shows) (shows.failed ≡ true) shows old new stopped

  -- What the run tells, with what is left of files that could not be opened: it goes back to databases of first parts,
  -- those that the session told might be left where the run ended.
  abbrev pub RanAndLeft : {D : Type 0} {g : Ghosts D} → Result Tally RunFault → Leftover D g → Type 0
  RanAndLeft {D} {g} ran rest =
      (ended : Held (FileStore D g)) × (failed : Bool) × RanThen (shown_on failed (file_state ended)) ran
      × LeadsTo (file_state ended).may_leave rest

-- After the run of a list on a session that was settled for a package that meets the rules, by the writer before and
-- after.
module _ (before : Bool) (old : State) (source : Option (List ℕ)) (moment : ℕ) (writer writer_now : Written)
    (ran : Result Tally RunFault) where
  -- the session that is adopted
  abbrev pub IsRunRecovered : State → Type 0
  IsRunRecovered again =
      OnRun (HasCleanDisk again) (λ p. IsSettled current old p) source
      (λ p bytes. ∥ RanAndFound before p moment bytes writer writer_now ran again ∥₁)

  -- The files could not be opened: a fault, and what the run tells is said on a disk that tells no lie. Or they were,
  -- and the connection is handed back, settled for the package that would have been adopted; it is a fault.
  abbrev pub IsRunNotRecovered : {D : Type 0} {g : Ghosts D} → NotBegun D g → Type 0
  IsRunNotRecovered {D} {g} (begun.Unopened stop) =
      IsStoreFault (fault_in stop)
      × OnRun (TellsNoLie g) (λ p. IsSettled current old p) source
      (λ p bytes. ∥ RanAndLeft before p moment bytes writer writer_now ran (rest_of stop) ∥₁)
  IsRunNotRecovered {D} {g} (begun.Declined conn why) =
      (conn.in_transaction ≡ false)
      × OnRun (HasCleanDisk (file_state conn)) (λ p. IsSettled current old p) source
      (λ p bytes. IsFault why × ∥ RanAndFound before p moment bytes writer writer_now ran (file_state conn) ∥₁)
