-- A package that is made, run on, closed, opened again and run on.
use Rattle.std.specs.Prelude.{◌≡◌, ◌++◌, ℕ, List, Option, Some}
use Rattle.std.specs.List.{concat}
use Rattle.std.specs.Io.KnownBytes.{Appends}
use Rattle.sqlite_disk.specs.declared.Disk.{Ghosts}
use Rattle.sqlite_disk.specs.declared.Files.{Files}
use Rattle.sqlite.specs.State.{State, HasCleanDisk}
use Rattle.mm_definitions.specs.Opening.{opening}
use Rattle.mm_definitions.specs.Runs.{run}
use Rattle.mm_definitions.specs.Streams.{Written}
use Rattle.mm_run.specs.Lines.{lines}
use Rattle.mm_run.specs.Records.{records_of}
use Rattle.mm_core.specs.Answers.{answers_to, calls_of}
use Rattle.mm_core.specs.Readings.{Reading, AreReadAs}
use Rattle.mm_recovery.specs.Made.{AreNew}
use Rattle.mm_recovery.specs.Recovered.{IsSoundOn}

-- The records of both lists are read, each answered from the package that the ones before it gave; the session is
-- settled for the package after all.
pub record RanTwice (moment : ℕ) (bytes bytes2 : List ℕ) (old new : Written) (again : State) : Type 0 where
  pub readings : List Reading
  pub read : AreReadAs (records_of bytes) readings
  pub readings2 : List Reading
  pub read2 : AreReadAs (records_of bytes2) readings2
  pub text : Appends old.contents new.contents
      (concat (lines (answers_to opening moment readings)) ++ concat
      (lines (answers_to (run opening (calls_of moment readings)) moment readings2)))
  pub stands : IsSoundOn again (run (run opening (calls_of moment readings)) (calls_of moment readings2))

-- on files that were new, where both readers tell their bytes and the store was clean
abbrev pub HasLived : {D : Type 0} (g : Ghosts D) → Files D → ℕ → Option (List ℕ) → Option (List ℕ) → Written → Written
    → State → Type 0
HasLived g files moment source source2 old new again =
    HasCleanDisk again → AreNew g files → (bytes : List ℕ) → source ≡ Some bytes → (bytes2 : List ℕ)
    → source2 ≡ Some bytes2 → RanTwice moment bytes bytes2 old new again
