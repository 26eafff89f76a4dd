-- What a run tells, with what is found of its files, or left of them.
use Rattle.std.proofs.Common.{IfOk, IfErr, List, Option, Result, ◌≡◌, ◌≢◌, ◌∙◌, ◌+◌, ℕ, Bool, true, false, Ok, Err, sym}
use Rattle.std.proofs.Math.Logic.{∥∥₁_map}
use Rattle.sqlite_disk.specs.declared.Disk.{Ghosts}
use Rattle.sqlite_disk.specs.declared.Files.{Files}
use Rattle.sqlite_store.specs.declared.store.FileStore.{FileStore}
use Rattle.sqlite_store.specs.FileStore as file
use Rattle.sqlite.specs.Held.{Held}
use Rattle.sqlite.specs.Tree.{Trees}
use Rattle.sqlite.specs.Files.{file_state}
use Rattle.sqlite.specs.State.{State, HasCleanDisk}
use Rattle.sql_forms.proofs.Doubt.{no_doubt}
use Rattle.mm_definitions.specs.Bounds.{current}
use Rattle.mm_definitions.specs.Package.{Package}
use Rattle.mm_definitions.specs.Runs.{run}
use Rattle.mm_definitions.specs.Streams.{Written}
use Rattle.mm_definitions.specs.declared.answers.RunFault.{RunFault}
use Rattle.mm_definitions.specs.declared.answers.Tally.{Tally}
use Rattle.mm_run.proofs.Reports.{stops-behind}
use Rattle.mm_core.specs.Answers.{calls_of}
use Rattle.mm_core.specs.Runs.{OnRun, RanAll, RanSome, RunTellsReopening, WorksOn}
use Rattle.mm_core.specs.Applied.{StandsForCurrent, shown_on}
use Rattle.mm_store.specs.Stands.{IsSettled}
use Rattle.mm_recovery.specs.Found.{AreLeftBy}
use Rattle.mm_recovery.specs.Ran.{IsRunNotRecovered, IsRunRecovered, RanAndFound, RanThen}
use Rattle.mm_recovery.specs.Recovered.{AdoptsLeft, DeclinesLeft, IsRecovered, LeavesPackages}
use Rattle.mm_recovery.specs.declared.stops.NotBegun.{NotBegun}
use Rattle.mm_recovery.specs.declared.stops.NotBegun.TheVariants as begun
use Rattle.mm_files.proofs.Kept.{clean_by}
use Rattle.mm_recovery.proofs.Stopping.{clean_left}

-- a flag is not both
both_flags : (before failed : Bool) → before ≡ false → failed ≡ true → failed ≡ before → ⊥
both_flags before failed was fails same = let e : true ≡ false = sym fails ∙ same ∙ was in cc

-- ---- what was found

-- The databases that the session told might be left stand for first parts, and so does the one that was found.
module _ (before failed : Bool) (same : Type 0) (mid again : State) (p : Package) (moment : ℕ) (bytes : List ℕ)
    (old new : Written)
    (db : Trees) (may : mid.may_leave db)
    (settled : (q : Package) → StandsForCurrent db q → IsSettled current again q) where
  found_after : (ran : Result Tally RunFault) → RunTellsReopening before failed same ran
      → RanThen before p moment bytes old new (shown_on failed mid) ran
      → RanAndFound before p moment bytes old new ran again
  found_after (Ok t) tells it =
      let left = it.left db may in
      record {
        readings = it.readings;
        read = it.read;
        text = it.text;
        counted = it.counted;
        all = it.all;
        written = it.written;
        stands = (settled (run p (calls_of moment it.readings)) (it.stands.0.left db may), it.stands.1);
        left = λ _ one. (left.0, settled left.0 left.1, left.2, left.3);
      }
  found_after (Err e) tells it =
      let left = it.left db may in
      record {
        session = stops-behind p moment it.readings (e.tally.accepted + e.tally.refused)
            (WorksOn before (shown_on failed mid)) (λ q. IsSettled current again q × (e.fault.0 ≢ 91)) (failed ≡ true)
            (e.fault.0 ≡ 96 → before ≡ true)
            (λ (q : Package) (works : WorksOn before (shown_on failed mid) q). (
              settled q (works.1.0.left db may),
              λ store. both_flags before failed (tells.1 store).0 (tells.1 store).1 works.0,
            ))
            (λ (fails : failed ≡ true) (input : e.fault.0 ≡ 96). sym (tells.2 input) ∙ fails) it.session;
        readings = it.readings;
        read = it.read;
        text = it.text;
        counted = it.counted;
        left = λ _ one. (left.0, settled left.0 left.1, left.2, left.3);
      }

-- ---- the run of a list, by its contract

module _ (before failed : Bool) (same : Type 0) (old mid : State) (source : Option (List ℕ)) (moment : ℕ)
    (writer writer_now : Written) where
  abbrev pub RunTells : Result Tally RunFault → Type 0
  RunTells ran =
      RunTellsReopening before failed same ran
      × IfOk ran (λ t. OnRun (HasCleanDisk mid) (λ p. IsSettled current old p) source
      (λ p bytes. RanAll p moment bytes (shown_on failed mid) writer writer_now t))
      × IfErr ran (λ e. OnRun (HasCleanDisk mid) (λ p. IsSettled current old p) source
      (λ p bytes. RanSome p moment bytes (WorksOn before (shown_on failed mid)) (failed ≡ true) (shown_on failed mid)
      writer writer_now e))

  then_by : (ran : Result Tally RunFault) → RunTells ran
      → OnRun (HasCleanDisk mid) (λ p. IsSettled current old p) source
      (λ p bytes. RanThen before p moment bytes writer writer_now (shown_on failed mid) ran)
  then_by (Ok t) told = told.1
  then_by (Err e) told = told.2

  left_by : (ran : Result Tally RunFault) → RunTells ran
      → OnRun (HasCleanDisk mid) (λ p. IsSettled current old p) source (λ p bytes. LeavesPackages mid)
  left_by (Ok t) told clean p sound bytes is =
      λ db may. let left = (told.1 clean p sound bytes is).left db may in (left.0, left.1, left.3)
  left_by (Err e) told clean p sound bytes is =
      λ db may. let left = (told.2 clean p sound bytes is).left db may in (left.0, left.1, left.3)

  pub run_recovers : (again : State) (ran : Result Tally RunFault) → RunTells ran → IsRecovered mid again
      → IsRunRecovered before old source moment writer writer_now ran again
  run_recovers again ran told recovered clean p sound bytes is =
      ∥∥₁_map (recovered.found clean) (λ found.
      found_after before failed same mid again p moment bytes writer writer_now found.0 found.1
      (λ q stands. (found.2 q stands).0) ran told.0 (then_by ran told (recovered.clean clean) p sound bytes is))

module _ {D : Type 0} {g : Ghosts D} (before failed : Bool) (same : Type 0) (old ended : Held (FileStore D g))
    (source : Option (List ℕ)) (moment : ℕ) (writer writer_now : Written)
    (ran : Result Tally RunFault)
    (told : RunTells before failed same (file_state old) (file_state ended) source moment writer writer_now ran)
    (files : Files D) (left : AreLeftBy ended files) where
  pub run_adopts : (again : Held (FileStore D g)) → AdoptsLeft files again
      → IsRunRecovered before (file_state old) source moment writer writer_now ran (file_state again)
  run_adopts again adopts =
      run_recovers before failed same (file_state old) (file_state ended) source moment writer writer_now
      (file_state again) ran told (adopts ended left)

  pub run_declines : (e : NotBegun D g) → DeclinesLeft files e
      → IsRunNotRecovered before (file_state old) source moment writer writer_now ran e
  run_declines (begun.Unopened stop) it = (
    it.0.fault,
    λ honest p sound bytes is.
        let clean : HasCleanDisk (file_state ended) =
        no_doubt _ (clean_by ended.store (honest (file.files ended.store).0 (file.files ended.store).1)) in
        ∣ (
          ended,
          failed,
          then_by before failed same (file_state old) (file_state ended) source moment writer writer_now ran told clean
              p sound bytes is,
          it.1 ended left (honest files.log files.db) (clean_left honest stop.rest),
        ) ∣₁,
  )
  run_declines (begun.Declined conn why) it = (
    it.0,
    λ clean p sound bytes is.
        let declined = it.1 ended left in (
          declined.faults clean
              (left_by before failed same (file_state old) (file_state ended) source moment writer writer_now ran told
              (declined.clean clean) p sound bytes is),
          ∥∥₁_map (declined.found clean) (λ found.
              found_after before failed same (file_state ended) (file_state conn) p moment bytes writer writer_now
              found.0 found.1 (λ q stands. found.2.settled current q stands) ran told.0
              (then_by before failed same (file_state old) (file_state ended) source moment writer writer_now ran told
              (declined.clean clean) p sound bytes is)),
        ),
  )
