-- What is left of two files that could not be opened or closed.
use Rattle.std.specs.Prelude.{◌≡◌, ◌⊎◌, false}
use Rattle.sqlite_disk.specs.Disk.{MoreFaults}
use Rattle.sqlite_disk.specs.declared.Disk.{Ghosts}
use Rattle.sqlite_disk.specs.declared.Files.{Files}
use Rattle.sqlite_wal.specs.Reads.{AreClean}
use Rattle.sqlite_store.specs.declared.store.FileStore.{FileStore}
use Rattle.sqlite_store.specs.FileStore.{recovers}
use Rattle.sqlite.specs.Tree.{Trees}
use Rattle.sqlite.specs.Held.{Held}
use Rattle.sqlite.specs.State.{HasCleanDisk}
use Rattle.sqlite.specs.Files.{file_state, faults_left, faults_of, image_of, HoldsDatabase, IsCleanLeft, IsFullLeft}
use Rattle.sqlite.specs.Files.{IsNothing, LeavesFiles}
use Rattle.sqlite.specs.declared.file.Leftover.{Leftover}
use Rattle.sqlite.specs.declared.file.Leftover.TheVariants as left
use Rattle.mm_definitions.specs.declared.answers.Fault.{Fault}
use Rattle.mm_definitions.specs.Faults.{store, IsStoreFault}
use Rattle.mm_recovery.specs.Found.{AreLeftBy, HoldOneOf}
use Rattle.mm_recovery.specs.declared.stops.Stopped.{Stopped}

module _ {D : Type 0} {g : Ghosts D} where
  -- the fault that stopped it
  abbrev pub fault_in : Stopped D g → Fault
  fault_in stop = stop.fault

  -- what is left of the files
  abbrev pub rest_of : Stopped D g → Leftover D g
  rest_of stop = stop.rest

  -- What a crash leaves goes back to one of these databases. Files of which nothing was changed hold one, and a store
  -- that was opened over them may leave no other; of those that were being read the kit's words say how each outcome
  -- stands for what was there.
  abbrev pub LeadsTo : (Trees → Type 0) → Leftover D g → Type 0
  LeadsTo P (left.Files now) = HoldOneOf g P now
  LeadsTo P (left.Unopened now) = ∥ ((files : Files D) × HoldOneOf g P files × LeavesFiles files (left.Unopened now)) ∥₁
  LeadsTo P (left.Store now) = (db : Trees) → recovers now db → ∥ P db ∥₁

  -- why an open fails but for want of memory: the files hold no database, a call of them failed, or one is as long as
  -- it may be
  abbrev pub HasCause : Files D → Leftover D g → Type 0
  HasCause files rest =
      (((db : Trees) × HoldsDatabase (image_of g files) db) ⊎ IsNothing (image_of g files) → ⊥)
      ⊎ (MoreFaults (faults_of g files) (faults_left rest) ⊎ IsFullLeft rest)

  -- A fault, and 91 has a cause. What is left is as the open of the kit leaves it.
  pub record IsNotOpened (files : Files D) (stop : Stopped D g) : Type 0 where
    pub fault : IsStoreFault stop.fault
    pub cause : stop.fault ≡ store → IsCleanLeft stop.rest → HasCause files stop.rest
    pub unharmed : IsCleanLeft stop.rest → LeavesFiles files stop.rest

  -- no more is left than before, of whichever connection the files held what might be left
  abbrev pub LeadsBack : Files D → Stopped D g → Type 0
  LeadsBack files stop =
      (old : Held (FileStore D g)) → AreLeftBy old files → AreClean g files.log files.db → IsCleanLeft stop.rest
      → LeadsTo (file_state old).may_leave stop.rest

  -- The files of the connection could not be closed: a fault, and 91 has a cause. No more is left than before.
  pub record IsNotClosed (old : Held (FileStore D g)) (stop : Stopped D g) : Type 0 where
    pub fault : IsStoreFault stop.fault
    pub clean : IsCleanLeft stop.rest → HasCleanDisk (file_state old)
    pub cause : stop.fault ≡ store → IsCleanLeft stop.rest → ((file_state old).is_open ≡ false)
        ⊎ MoreFaults (file_state old).faults (faults_left stop.rest)
    pub left : LeadsTo (file_state old).may_leave stop.rest

-- ---- disks that tell no lie
-- each disk of this type is clean, as those over memory are
abbrev pub TellsNoLie : {D : Type 0} → Ghosts D → Type 0
TellsNoLie {D} g = (log db : D) → AreClean g log db
