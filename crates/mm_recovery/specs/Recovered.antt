-- What becomes of a package whose files were lost or closed.
use Rattle.std.specs.Prelude.{◌≡◌, ⊤, false, IsTrue}
use Rattle.sqlite_disk.specs.declared.Disk.{Ghosts}
use Rattle.sqlite_disk.specs.declared.Files.{Files}
use Rattle.sqlite_store.specs.declared.store.FileStore.{FileStore}
use Rattle.sqlite.specs.Tree.{Trees}
use Rattle.sqlite.specs.Held.{Held}
use Rattle.sqlite.specs.Files.{file_state}
use Rattle.sqlite.specs.State.{State, HasCleanDisk}
use Rattle.mm_definitions.specs.Bounds.{Profile, current}
use Rattle.mm_definitions.specs.Package.{Package}
use Rattle.mm_definitions.specs.Rules.{Meets}
use Rattle.mm_definitions.specs.declared.answers.Open.{Open}
use Rattle.mm_definitions.specs.declared.answers.Open.TheVariants as opens
use Rattle.mm_definitions.specs.Faults.{IsStoreFault}
use Rattle.mm_store.specs.Stands.{StandsFor, IsSettled}
use Rattle.mm_core.specs.Opening.{HasNoTable}
use Rattle.mm_core.specs.Adopted.{Declines, DeclinesNone}
use Rattle.mm_core.specs.Applied.{StandsForCurrent}
use Rattle.mm_recovery.specs.Found.{AreLeftBy, AreClosed}
use Rattle.mm_recovery.specs.Stops.{IsNotOpened, LeadsBack, LeadsTo, TellsNoLie, fault_in, rest_of}
use Rattle.mm_recovery.specs.declared.stops.NotBegun.{NotBegun}
use Rattle.mm_recovery.specs.declared.stops.NotBegun.TheVariants as begun

-- settled for the package, which meets the rules
abbrev pub IsSoundOn : State → Package → Type 0
IsSoundOn s p = IsSettled current s p × Meets current p

-- each database that may be left stands for a package that meets the rules
abbrev pub LeavesPackages : State → Type 0
LeavesPackages s = (db : Trees) → s.may_leave db → (p : Package) × StandsForCurrent db p × Meets current p

-- a fault, and no opening number and no rule
abbrev pub IsFault : Open → Type 0
IsFault (opens.Fault fault) = IsStoreFault fault
IsFault _ = ⊥

-- What comes back of a connection that found this database, and is declined: no other may be left, and it is settled
-- for each package, in whatever profile, that the database stands for. It is told why as `adopt` tells it: a package of
-- this profile breaks the rule that is told, or it is a fault; and without a table there is no profile, or it is a
-- fault.
pub record IsKeptOn (s : State) (db : Trees) (why : Open) : Type 0 where
  pub only : (other : Trees) → s.may_leave other → other ≡ db
  pub settled : (profile : Profile) (p : Package) → StandsFor profile.version db p → IsSettled profile s p
  pub declines : (p : Package) → StandsForCurrent db p → Declines p why
  pub none : HasNoTable db → DeclinesNone s why

-- ---- files that were lost

-- One of the databases that might be left was found, and the session is open, and settled for what it stands for.
pub record IsRecovered (old new : State) : Type 0 where
  pub clean : HasCleanDisk new → HasCleanDisk old
  pub is_open : HasCleanDisk new → IsTrue new.is_open
  pub found : HasCleanDisk new
      → ∥ ((db : Trees) × old.may_leave db × ((p : Package) → StandsForCurrent db p → IsSoundOn new p)) ∥₁

-- One of them was found, and the connection is handed back as it was opened. Where packages were left it is a fault.
pub record IsHandedBack (old new : State) (why : Open) : Type 0 where
  pub mode : new.in_transaction ≡ false
  pub clean : HasCleanDisk new → HasCleanDisk old
  pub found : HasCleanDisk new → ∥ ((db : Trees) × old.may_leave db × IsKeptOn new db why) ∥₁
  pub faults : HasCleanDisk new → LeavesPackages old → IsFault why

module _ {D : Type 0} {g : Ghosts D} where
  -- of whichever connection the files hold what might be left
  abbrev pub AdoptsLeft : Files D → Held (FileStore D g) → Type 0
  AdoptsLeft files new =
      (old : Held (FileStore D g)) → AreLeftBy old files → IsRecovered (file_state old) (file_state new)

  -- They could not be opened, and no more is left of them than before; or they were, and the package is declined.
  abbrev pub DeclinesLeft : Files D → NotBegun D g → Type 0
  DeclinesLeft files (begun.Unopened stop) =
      IsNotOpened files stop × LeadsBack files stop
  DeclinesLeft files (begun.Declined conn why) =
      (conn.in_transaction ≡ false)
      × ((old : Held (FileStore D g)) → AreLeftBy old files → IsHandedBack (file_state old) (file_state conn) why)

-- ---- files that were closed

-- The database of the last commit was found, of a store that was open; the session is open, and settled for what that
-- stands for, and so for the package that the closed one was settled for.
pub record IsReopened (old new : State) : Type 0 where
  pub clean : HasCleanDisk new → HasCleanDisk old
  pub is_open : HasCleanDisk new → IsTrue new.is_open
  pub settled : HasCleanDisk new → (p : Package) → StandsForCurrent old.committed.trees p → IsSoundOn new p
  pub kept : HasCleanDisk new → (p : Package) → IsSettled current old p → IsSoundOn new p

-- It was found, and the connection is handed back as it was opened. Where it stands for a package that meets the rules
-- it is a fault.
pub record IsRedeclined (old new : State) (why : Open) : Type 0 where
  pub mode : new.in_transaction ≡ false
  pub clean : HasCleanDisk new → HasCleanDisk old
  pub was_open : HasCleanDisk new → IsTrue old.is_open
  pub found : HasCleanDisk new → IsKeptOn new old.committed.trees why
  pub faults : HasCleanDisk new → (p : Package) → StandsForCurrent old.committed.trees p → Meets current p → IsFault why

module _ {D : Type 0} {g : Ghosts D} where
  -- of whichever connection they were closed
  abbrev pub AdoptsClosed : Files D → Held (FileStore D g) → Type 0
  AdoptsClosed files new =
      (old : Held (FileStore D g)) → AreClosed old files → IsReopened (file_state old) (file_state new)

  abbrev pub DeclinesClosed : Files D → NotBegun D g → Type 0
  DeclinesClosed files (begun.Unopened stop) = ⊤
  DeclinesClosed files (begun.Declined conn why) =
      (old : Held (FileStore D g)) → AreClosed old files → IsRedeclined (file_state old) (file_state conn) why

  -- The files could not be closed or opened: a fault, and on a disk that tells no lie no more is left of them than
  -- before. Or they were, and the package is declined.
  abbrev pub IsNotReopened : Held (FileStore D g) → NotBegun D g → Type 0
  IsNotReopened old (begun.Unopened stop) =
      IsStoreFault (fault_in stop) × (TellsNoLie g → LeadsTo (file_state old).may_leave (rest_of stop))
  IsNotReopened old (begun.Declined conn why) = IsRedeclined (file_state old) (file_state conn) why
