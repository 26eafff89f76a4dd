-- What a use of the program leads to: from what the files held to each thing that a crash, or none, may leave of them.
use Rattle.std.specs.Prelude.{◌≡◌, ◌⊎◌, ℕ, Bool, true, List, [], Option, None, IfSome, Result, Ok, Err}
use Rattle.sqlite_disk.specs.declared.Disk.{Ghosts}
use Rattle.sqlite.specs.Tree.{Trees}
use Rattle.sqlite.specs.Recovery.{Image}
use Rattle.sqlite.specs.Files.{HoldsDatabase}
use Rattle.sqlite.specs.WalFiles.{outcomes}
use Rattle.sqlite.specs.WalReads.{AreClean}
use Rattle.mm_definitions.specs.Keys.{Text}
use Rattle.mm_definitions.specs.Opening.{opening}
use Rattle.mm_definitions.specs.Streams.{Written}
use Rattle.mm_arguments.specs.Requests.{WordsAsk}
use Rattle.mm_arguments.specs.declared.requests.Request.{Request}
use Rattle.mm_arguments.specs.declared.requests.Request.TheVariants as asked
use Rattle.mm_core.specs.Applied.{StandsForCurrent}
use Rattle.mm_core.specs.Opening.{HasNoTable}
use Rattle.mm_files.specs.Files.{HoldNoByte}
use Rattle.mm_files.specs.Worked.{IsLeftOpen}
use Rattle.mm_files.specs.declared.left.Left.{Left}
use Rattle.mm_files.specs.declared.left.Left.TheVariants as left
use Rattle.mm_work.specs.Migrated.{migrate_status, migrate_text}
use Rattle.mm_work.specs.Told.{IsTold, init_status, init_text}
use Rattle.mm_work.specs.declared.stop.Stop.{Stop}
use Rattle.mm_program.specs.Desks.{LeavesDesk}
use Rattle.mm_program.specs.Files.{StopsStore}
use Rattle.mm_program.specs.Left.{LeavesImport, LeavesMigrated, LeavesRun, LeavesSame}
use Rattle.mm_program.specs.Life.{Leads, LivesOn}
use Rattle.mm_program.specs.Told.{EndsInOutcome, import_status, import_text}
use Rattle.mm_program.specs.Worked.{closes_done, closes_import, closes_run}

-- A crash, or none, may leave this of the files: of those that work was done on, and of those that could not be closed
-- behind it by a fault that left the store open.
abbrev pub MayBeLeft : {D S : Type 0} (g : Ghosts D) → Left D S g → Image → Type 0
MayBeLeft g (left.Worked opened) next =
    AreClean g opened.files.log opened.files.db × outcomes g opened.files.log opened.files.db next
MayBeLeft g (left.Unclosed it) next = IsLeftOpen g it next
MayBeLeft g rest next = ⊥

-- What the work came to is what is told; or it came to its end, and the store tells why the files could not be closed.
abbrev pub CameSo : {T : Type 0} → (Result T Stop → Bool) → Result T Stop → Result T Stop → Type 0
CameSo closes told done = (done ≡ told) ⊎ ((why : Stop) × (told ≡ Err why) × StopsStore why × (closes done ≡ true))

-- files hold the new package; or, where it was not made, no table or that
abbrev pub HoldMade : Image → Result (Unit {0}) Stop → Type 0
HoldMade next (Ok done) = ∥ LivesOn next opening [] ∥₁
HoldMade next (Err why) =
    ∥ ((after : Trees) × (HasNoTable after ⊎ StandsForCurrent after opening) × HoldsDatabase next after) ∥₁

module _ (source : Option (List ℕ)) (image next : Image) (old new : Written) (result : ℕ) where
  -- work that prints leads on as what it came to, which is told behind what it printed
  abbrev pub LedByWork : {T : Type 0} → (T → ℕ) → (Trees → Trees → Written → Result T Stop → Type 0)
      → (Result T Stop → Bool) → Type 0
  LedByWork {T} status leaves closes =
      (between : Written) × (told : Result T Stop) × (done : Result T Stop)
      × EndsInOutcome status old between new told result × CameSo closes told done
      × Leads (λ found after. leaves found after between done) image next

  -- so does work that is told in one line
  abbrev pub LedByLine : {T : Type 0} → (Result T Stop → List ℕ) → (Result T Stop → ℕ)
      → (Trees → Trees → Result T Stop → Type 0) → (Result T Stop → Bool) → Type 0
  LedByLine {T} text status leaves closes =
      (told : Result T Stop) × (done : Result T Stop) × IsTold old new (text told) (status told) result
      × CameSo closes told done × Leads (λ found after. leaves found after done) image next

  -- so does each request: one that only looks leaves what was held, and `init` makes files that held no byte
  abbrev pub LedBy : Request → Type 0
  LedBy (asked.Init file) =
      HoldNoByte image → (told : Result (Unit {0}) Stop) × (done : Result (Unit {0}) Stop)
      × IsTold old new (init_text told) (init_status told) result × CameSo closes_done told done × HoldMade next done
  LedBy (asked.Run file at) =
      (moment : ℕ) × IfSome at (λ given. moment ≡ given)
      × LedByWork (λ status. status) (λ found after between done. LeavesRun source moment found after old between done)
      closes_run
  LedBy (asked.Kit file edition folder at) =
      LedByLine import_text import_status (LeavesImport None edition.now) closes_import
  LedBy (asked.Check file) = Leads LeavesSame image next
  LedBy (asked.List file) = Leads LeavesSame image next
  LedBy (asked.Show file table id) = Leads LeavesSame image next
  LedBy (asked.Migrate file) = LedByLine migrate_text migrate_status LeavesMigrated closes_done
  LedBy (asked.Serve file port count) = Leads LeavesSame image next
  LedBy (asked.Desk file port count page) =
      LedByWork (λ status. status) (λ found after between done. LeavesDesk found after done) closes_run
  LedBy (asked.Explain answer) = ⊥

  -- so does what the words ask for
  abbrev pub LedOn : List Text → Type 0
  LedOn words = (request : Request) × WordsAsk words request × LedBy request
