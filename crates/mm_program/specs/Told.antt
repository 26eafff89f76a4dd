-- What a subcommand prints, and the exit status that goes with it.
use Rattle.std.specs.Prelude.{◌≡◌, ◌⊎◌, ⊤, ℕ, ℤ, Bool, List, Option, None, Some, Result, Ok, Err, IfErr, IfSome, codes}
use Rattle.sqlite_disk.specs.declared.Disk.{Ghosts}
use Rattle.sqlite.specs.Tree.{Trees}
use Rattle.sqlite.specs.Recovery.{Image}
use Rattle.mm_definitions.specs.Faults as faults
use Rattle.mm_definitions.specs.Bounds.{IsName}
use Rattle.mm_definitions.specs.Keys.{Text}
use Rattle.mm_definitions.specs.declared.answers.KitFault.{KitFault}
use Rattle.mm_definitions.specs.declared.answers.Staged.{Staged}
use Rattle.mm_work.specs.Imports.{kit_status, kit_text}
use Rattle.mm_work.specs.Looked.{check_status, check_text}
use Rattle.mm_work.specs.Migrated.{migrate_status, migrate_text}
use Rattle.mm_work.specs.Told.{IsTold, init_status, init_text, stop_status, stop_text}
use Rattle.mm_work.specs.declared.stop.Stop.{Stop}
use Rattle.mm_work.specs.declared.stop.Stop.TheVariants as stops
use Rattle.clap.specs.Words.{HasKind, fault_of, kind_of}
use Rattle.clap.specs.declared.error.Error.{Error}
use Rattle.mm_arguments.specs.CommandLine.{command_line}
use Rattle.mm_arguments.specs.Requests.{WordsAsk, status_of}
use Rattle.mm_arguments.specs.declared.requests.Request.{Request}
use Rattle.mm_arguments.specs.declared.requests.Request.TheVariants as asked
use Rattle.mm_files.specs.declared.left.Left.{Left}
use Rattle.mm_files.specs.Worked.{IsUnprinted}
use Rattle.mm_program.specs.Desks.{IsDeskDone, IsKey, LeavesDesk, TellsDesk, TellsSat, table_of}
use Rattle.mm_program.specs.Explained.{TellsExplained}
use Rattle.mm_program.specs.Files.{IsUntouched, OnFile, StopsNew, StopsOld, WasBare, WorkEnds}
use Rattle.mm_program.specs.Left.{LeavesImport, LeavesMade, LeavesMigrated, LeavesRun, LeavesSame}
use Rattle.mm_program.specs.Left.{TellsChecked, TellsImport, TellsListing, TellsMigrated, TellsRun, TellsServed}
use Rattle.mm_program.specs.Left.{TellsShown}
use Rattle.mm_program.specs.Served.{TellsServe}
pub use Rattle.mm_program.specs.Stops.{StopsAny, StopsCheck}
use Rattle.mm_program.specs.Worked.{IsPageServed, RunEnds, ShowingEnds, StatusEnds}
use Rattle.mm_program.specs.Worked.{closes_done, closes_import, closes_run}
use Rattle.mm_definitions.specs.Streams.{Written}

-- ---- what goes with any of them

-- what an import came to, or why none was begun
abbrev pub import_text : Result (Result Staged KitFault) Stop → List ℕ
import_text (Ok import) = kit_text import
import_text (Err why) = stop_text why

-- the exit status that goes with it
abbrev pub import_status : Result (Result Staged KitFault) Stop → ℕ
import_status (Ok import) = kit_status import
import_status (Err why) = stop_status why

-- Status 4 goes with why the file is no package, and with nothing else.
abbrev pub TellsDecline : Written → Written → ℕ → Type 0
TellsDecline old new result = result ≡ 4 → (why : Stop) × IsTold old new (stop_text why) 4 result

-- Want of memory is a fault. Help and usage have their status, or 3 where they could not be printed; what they say is
-- `clap`'s.
abbrev pub TellsStatus : Option ℕ → Written → Written → ℕ → Type 0
TellsStatus None old new result = IsTold old new (stop_text (stops.Fault faults.memory)) 3 result
TellsStatus (Some status) old new result = (result ≡ status) ⊎ (result ≡ 3)

-- ---- what a subcommand prints, and what it leaves of the files that were opened: by what they held and by the path
-- that the words name

-- its status is answered, and nothing more is printed; or why it was not done is told
abbrev pub IsOutcome : {T : Type 0} → (T → ℕ) → Written → Written → Result T Stop → ℕ → Type 0
IsOutcome status old new (Ok it) result = (old ≡ new) × (result ≡ status it)
IsOutcome status old new (Err why) result = IsTold old new (stop_text why) (stop_status why) result

-- The work printed so much, or nothing where it was not done for a reason that is no fault; then comes its outcome.
abbrev pub EndsInOutcome : {T : Type 0} → (T → ℕ) → Written → Written → Written → Result T Stop → ℕ → Type 0
EndsInOutcome status old between new outcome result =
    IfErr outcome (λ why. (between ≡ old) ⊎ (stop_status why ≡ 3)) × IsOutcome status between new outcome result

module _ {D S : Type 0} (g : Ghosts D) (image : Image) (path : Text) (old new : Written) (result : ℕ)
    (left : Left D S g) where
  -- Work on the file that is there came to this, or was not done, and then its outcome is told; it printed nothing
  -- where it was not begun; and it tells of the database that was found, and leaves of the files, this, by what it
  -- printed.
  abbrev pub TellsWork : {T : Type 0} → (T → ℕ) → (Written → Written → Result T Stop → Type 0)
      → (Trees → Written → Result T Stop → Type 0) → (Trees → Trees → Written → Result T Stop → Type 0)
      → (Result T Stop → Bool) → Type 0
  TellsWork {T} status comes_to tells leaves closes =
      (between : Written) × (outcome : Result T Stop) × WorkEnds StopsOld comes_to closes old between outcome left
      × EndsInOutcome status old between new outcome result × IsUnprinted g old between left
      × OnFile g image path StopsOld (λ found done. tells found between done)
      (λ found after done. leaves found after between done) closes outcome left

  -- `init` tells one of its outcomes and nothing else; files that it works on hold no byte, and then the new package
  -- where it tells so
  abbrev pub TellsInit : Type 0
  TellsInit = (outcome : Result (Unit {0}) Stop) × IfErr outcome StopsNew
      × IsTold old new (init_text outcome) (init_status outcome) result
      × OnFile g image path StopsNew (λ found done. ⊤) LeavesMade closes_done outcome left × WasBare g image left

  -- so does `check`, of the package that was found, which is as it was
  abbrev pub TellsCheck : Type 0
  TellsCheck = (outcome : Result (Unit {0}) Stop) × IfErr outcome StopsCheck
      × IsTold old new (check_text outcome) (check_status outcome) result × OnFile g image path StopsOld TellsChecked
      (λ found after done. LeavesSame found after) closes_done outcome left

  -- so does `migrate`, which tells the package in micrometres
  abbrev pub TellsMigrate : Type 0
  TellsMigrate = (outcome : Result (Unit {0}) Stop) × IfErr outcome StopsCheck
      × IsTold old new (migrate_text outcome) (migrate_status outcome) result
      × OnFile g image path StopsOld TellsMigrated LeavesMigrated closes_done outcome left

  -- `list` prints the listing of the package that was found, which is as it was
  abbrev pub TellsList : Type 0
  TellsList = TellsWork (λ done. 0) (StatusEnds (λ done. 0)) (λ found between done. TellsListing found old between done)
      (λ found after between done. LeavesSame found after) closes_done

  -- `show` prints the rows of a table of the package that was found, which is as it was; a table's name that is none
  -- opens no file
  abbrev pub TellsShow : Text → Option ℤ → Type 0
  TellsShow table id =
      (¬ (IsName table) × IsTold old new (codes "refused 12\n") 1 result × IsUntouched left)
      ⊎ (IsName table × TellsWork (λ status. status) ShowingEnds
      (λ found between done. TellsShown table id found old between done)
      (λ found after between done. LeavesSame found after) closes_run)

  -- `run` runs the records of the input, which has these bytes, at the moment that is given, or at that of the clock,
  -- or refuses the clock's
  abbrev pub TellsRan : Option (List ℕ) → Option ℕ → Type 0
  TellsRan source at =
      ((at ≡ None) × IsTold old new (codes "refused 11\n") 1 result × IsUntouched left)
      ⊎ ((moment : ℕ) × IfSome at (λ given. moment ≡ given) × TellsWork (λ status. status) RunEnds
      (λ found between done. TellsRun found done)
      (λ found after between done. LeavesRun source moment found after old between done) closes_run)

  -- `kit` refuses an edition that is no name, and a moment of the clock outside the limits; else it tells what the
  -- import came to.
  abbrev pub TellsKit : Text → Option ℕ → Type 0
  TellsKit edition at =
      (¬ (IsName edition) × IsTold old new (codes "kit refused 0 12\n") 1 result × IsUntouched left)
      ⊎ (IsName edition × (at ≡ None) × IsTold old new (codes "refused 11\n") 1 result × IsUntouched left)
      ⊎ (IsName edition × (outcome : Result (Result Staged KitFault) Stop)
      × IsTold old new (import_text outcome) (import_status outcome) result
      × OnFile g image path StopsOld TellsImport (LeavesImport None edition) closes_import outcome left)

  -- `serve` serves the package that was found, which is as it was
  abbrev pub TellsService : ℕ → ℕ → Type 0
  TellsService port count = TellsWork (λ status. status) (IsPageServed port count)
      (λ found between done. TellsServed found done) (λ found after between done. LeavesSame found after) closes_run

  -- `desk` shows the package that was found and runs lists on it, by some key; where a key or a table's name was
  -- refused, or no key could be had, no file is opened
  abbrev pub TellsSitting : ℕ → ℕ → Option Text → Type 0
  TellsSitting port count table =
      ((IsTold old new (codes "refused 11\n") 1 result ⊎ IsTold old new (codes "refused 12\n") 1 result)
      × IsUntouched left)
      ⊎ ((why : Stop) × StopsAny why × IsTold old new (stop_text why) (stop_status why) result × IsUntouched left)
      ⊎ ((key : Text) × IsKey key × TellsWork (λ status. status) (IsDeskDone port count key table)
      (λ found between done. TellsSat found done) (λ found after between done. LeavesDesk found after done) closes_run)

-- ---- the program

-- what is told of what was asked for, and left of the file that the words name
abbrev pub TellsRequest : {D S : Type 0} (g : Ghosts D) → Image → Option (List ℕ) → Request → Written → Written → ℕ
    → Left D S g → Type 0
TellsRequest g image source (asked.Init file) old new result left = TellsInit g image file.now old new result left
TellsRequest g image source (asked.Run file at) old new result left =
    TellsDecline old new result × TellsRan g image file.now old new result left source at
TellsRequest g image source (asked.Kit file edition folder at) old new result left =
    TellsKit g image file.now old new result left edition.now at
TellsRequest g image source (asked.Check file) old new result left = TellsCheck g image file.now old new result left
TellsRequest g image source (asked.List file) old new result left =
    TellsDecline old new result × TellsList g image file.now old new result left
TellsRequest g image source (asked.Show file table id) old new result left =
    TellsDecline old new result × TellsShow g image file.now old new result left table.now id
TellsRequest g image source (asked.Migrate file) old new result left = TellsMigrate g image file.now old new result left
TellsRequest g image source (asked.Serve file port count) old new result left =
    TellsServe port count old new result × TellsService g image file.now old new result left port count
TellsRequest g image source (asked.Desk file port count page) old new result left =
    TellsDesk port count (table_of page) old new result
    × TellsSitting g image file.now old new result left port count (table_of page)
TellsRequest g image source (asked.Explain answer) old new result left =
    TellsExplained answer.now old new result × IsUntouched left

-- What the words ask for is told and left; or what is wrong with them, or that memory is wanted to read them, and no
-- file was opened.
abbrev pub TellsWords : {D S : Type 0} (g : Ghosts D) → Image → Option (List ℕ) → List Text → Written → Written → ℕ
    → Left D S g → Type 0
TellsWords g image source words old new result left =
    ((request : Request) × WordsAsk words request × TellsRequest g image source request old new result left)
    ⊎ ((error : Error) × HasKind (fault_of command_line words) error
    × TellsStatus (status_of (kind_of error)) old new result × IsUntouched left)
