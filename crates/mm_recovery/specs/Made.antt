-- What becomes of files on which a package is made.
use Rattle.std.specs.Prelude.{◌≡◌, ◌⊎◌, ⊤, false, IsTrue}
use Rattle.sqlite.specs.Tree.{Trees}
use Rattle.sqlite.specs.Held.{Held}
use Rattle.sqlite.specs.Files.{file_state, image_of, IsNothing, AreFound}
use Rattle.sqlite.specs.State.{State, HasCleanDisk, Survives}
use Rattle.sqlite_store.specs.declared.store.FileStore.{FileStore}
use Rattle.sqlite_disk.specs.declared.Disk.{Ghosts}
use Rattle.sqlite_disk.specs.declared.Files.{Files}
use Rattle.mm_definitions.specs.Bounds.{Profile, current}
use Rattle.mm_definitions.specs.Opening.{opening}
use Rattle.mm_definitions.specs.Package.{Package}
use Rattle.mm_definitions.specs.declared.answers.Open.{Open}
use Rattle.mm_definitions.specs.declared.answers.Open.TheVariants as opens
use Rattle.mm_definitions.specs.Faults.{IsStoreFault}
use Rattle.mm_store.specs.Seen.{IsSeenAs}
use Rattle.mm_store.specs.Stands.{StandsFor, IsSettled}
use Rattle.mm_store.specs.Statements.{CommitsNothing}
use Rattle.mm_core.specs.Opening.{IsBlank, HasNoTable}
use Rattle.mm_core.specs.Adopted.{Declines}
use Rattle.mm_core.specs.Sessions.{MayMake}
use Rattle.mm_recovery.specs.Found.{AreLeftBy}
use Rattle.mm_recovery.specs.Stops.{IsNotOpened, LeadsBack}
use Rattle.mm_recovery.specs.Recovered.{IsSoundOn, IsFault}
use Rattle.mm_recovery.specs.declared.stops.NotBegun.{NotBegun}
use Rattle.mm_recovery.specs.declared.stops.NotBegun.TheVariants as begun

-- ---- new files

module _ {D : Type 0} (g : Ghosts D) where
  -- The files are blank: empty, or as an open left them that was stopped before there was a database. Or none that is
  -- found in them has a table.
  abbrev pub AreNew : Files D → Type 0
  AreNew files = IsNothing (image_of g files) ⊎ ((db : Trees) → AreFound g files db → HasNoTable db)

  -- The store is open, and a package can be made on it where the files were new.
  pub record FindsNoTable (files : Files D) (new : State) : Type 0 where
    pub is_open : HasCleanDisk new → IsTrue new.is_open
    pub blank : HasCleanDisk new → AreNew files → IsBlank new

  -- The store is open, and settled for a new package where the files were new.
  pub record IsMadeOn (files : Files D) (new : State) : Type 0 where
    pub is_open : HasCleanDisk new → IsTrue new.is_open
    pub settled : HasCleanDisk new → AreNew files → IsSettled current new opening

-- each database that may be left has no table, or stands for the new package
abbrev pub LeavesNoMore : State → Type 0
LeavesNoMore s = (db : Trees) → s.may_leave db → HasNoTable db ⊎ StandsFor current.version db opening

module _ {D : Type 0} {g : Ghosts D} where
  -- The files could not be opened, and no more is left of them than before; or they were, and then no more than a new
  -- package.
  abbrev pub IsLeftOn : Files D → NotBegun D g → Type 0
  IsLeftOn files (begun.Unopened stop) = IsNotOpened files stop
  IsLeftOn files (begun.Declined conn why) =
      (conn.in_transaction ≡ false) × IsFault why
      × (HasCleanDisk (file_state conn) → AreNew g files → LeavesNoMore (file_state conn))

-- ---- a connection that a making may have left

-- The store is open. It is settled for a new package where there was no table, and else for the package that it was
-- settled for. Where it read as a package, of whatever profile, nothing was committed.
pub record IsMadeOrFound (old new : State) : Type 0 where
  pub survives : Survives old new (MayMake old)
  pub is_open : HasCleanDisk new → IsTrue new.is_open
  pub made : HasCleanDisk new → IsBlank old → IsSettled current new opening
  pub found : HasCleanDisk new → (p : Package) → IsSettled current old p → IsSoundOn new p
  pub stays : (profile : Profile) (p : Package) → IsSeenAs profile old p → CommitsNothing old new

-- what is told as a fault is the store's
abbrev pub OnlyStoreFault : Open → Type 0
OnlyStoreFault (opens.Fault fault) = IsStoreFault fault
OnlyStoreFault _ = ⊤

-- Where there was no table it is a fault, and no more is left than a new package. A package is left as it was, and
-- declined for a cause. Where it read as a package, of whatever profile, nothing was committed.
pub record IsNeither (old new : State) (why : Open) : Type 0 where
  pub survives : Survives old new (MayMake old)
  pub faults : HasCleanDisk new → OnlyStoreFault why
  pub none : HasCleanDisk new → IsBlank old → IsFault why
  pub left : HasCleanDisk new → IsBlank old → LeavesNoMore new
  pub settled : HasCleanDisk new → (p : Package) → IsSettled current old p → IsSettled current new p × Declines p why
  pub stays : (profile : Profile) (p : Package) → IsSeenAs profile old p → CommitsNothing old new

-- ---- the making of a package that was stopped, and is begun again

-- The store is open, and settled for the new package where no more had been left than that.
pub record IsMadeAgain (old new : State) : Type 0 where
  pub clean : HasCleanDisk new → HasCleanDisk old
  pub is_open : HasCleanDisk new → IsTrue new.is_open
  pub settled : HasCleanDisk new → LeavesNoMore old → ∥ IsSettled current new opening ∥₁

-- Where no more had been left than the new package it is a fault, and no more is left still.
pub record IsStoppedAgain (old new : State) (why : Open) : Type 0 where
  pub clean : HasCleanDisk new → HasCleanDisk old
  pub faults : HasCleanDisk new → LeavesNoMore old → IsFault why
  pub left : HasCleanDisk new → LeavesNoMore old → ∥ LeavesNoMore new ∥₁

module _ {D : Type 0} {g : Ghosts D} where
  -- of whichever connection the files hold what might be left
  abbrev pub MakesAgain : Files D → Held (FileStore D g) → Type 0
  MakesAgain files new =
      (old : Held (FileStore D g)) → AreLeftBy old files → IsMadeAgain (file_state old) (file_state new)

  -- The files could not be opened, and no more is left of them than before; or they were.
  abbrev pub IsNotMadeAgain : Files D → NotBegun D g → Type 0
  IsNotMadeAgain files (begun.Unopened stop) = IsNotOpened files stop × LeadsBack files stop
  IsNotMadeAgain files (begun.Declined conn why) =
      (conn.in_transaction ≡ false)
      × ((old : Held (FileStore D g)) → AreLeftBy old files → IsStoppedAgain (file_state old) (file_state conn) why)
