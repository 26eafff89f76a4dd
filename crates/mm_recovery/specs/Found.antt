-- What two files hold, and what a connection finds that is opened on them.
use Rattle.std.specs.Prelude.{◌≡◌, IsTrue}
use Rattle.sqlite_disk.specs.declared.Disk.{Ghosts}
use Rattle.sqlite_disk.specs.declared.Files.{Files}
use Rattle.sqlite_wal.specs.Files.{outcomes}
use Rattle.sqlite_wal.specs.Reads.{AreClean}
use Rattle.sqlite_wal.specs.Recovery.{Image}
use Rattle.sqlite_store.specs.declared.store.FileStore.{FileStore}
use Rattle.sqlite.specs.Tree.{Trees}
use Rattle.sqlite.specs.Held.{Held}
use Rattle.sqlite.specs.Files.{file_state, HoldsDatabase}
use Rattle.sqlite.specs.State.{State, HasCleanDisk}
use Rattle.mm_definitions.specs.Bounds.{Profile}
use Rattle.mm_definitions.specs.Package.{Package}
use Rattle.mm_store.specs.Stands.{StandsFor, IsSettled}
use Rattle.mm_core.specs.Opening.{HasNoTable, IsBlank}

-- ---- two files

module _ {D : Type 0} (g : Ghosts D) where
  -- a crash leaves nothing of these files that it might not have left of those
  abbrev pub LeaveNoMore : Files D → Files D → Type 0
  LeaveNoMore old new = (image : Image) → outcomes g new.log new.db image → outcomes g old.log old.db image

  -- whatever a crash leaves of the files, they hold one of these databases
  abbrev pub HoldOneOf : (Trees → Type 0) → Files D → Type 0
  HoldOneOf P files =
      (image : Image) → outcomes g files.log files.db image → ∥ ((db : Trees) × P db × HoldsDatabase image db) ∥₁

module _ {D : Type 0} {g : Ghosts D} where
  -- Whatever a crash leaves of the files, they hold a database that this connection told might be left. So what it
  -- leaves of the connection's own files may be handed in, each time that they are lost.
  pub record AreLeftBy (old : Held (FileStore D g)) (files : Files D) : Type 0 where
    pub clean : AreClean g files.log files.db → HasCleanDisk (file_state old)
    pub hold : AreClean g files.log files.db → HoldOneOf g (file_state old).may_leave files

  -- The connection's files were closed: its store was open, and whatever a crash leaves of them, they hold its last
  -- commit.
  pub record AreClosed (old : Held (FileStore D g)) (files : Files D) : Type 0 where
    pub was_open : AreClean g files.log files.db → IsTrue (file_state old).is_open
    pub hold : AreClean g files.log files.db → HoldOneOf g (λ db. db ≡ (file_state old).committed.trees) files
    pub left : AreLeftBy old files

-- ---- a connection that is opened on them

-- settled for each package that the database stands for which it found, in whatever profile
abbrev pub IsSettledInEach : State → Type 0
IsSettledInEach new =
    (profile : Profile) (p : Package) → StandsFor profile.version new.committed.trees p → IsSettled profile new p

-- where the database that it found has no table, a package can be made on it
abbrev pub IsBlankByFound : State → Type 0
IsBlankByFound new = HasNoTable new.committed.trees → IsBlank new

-- The store is open, no other database may be left than the one that was found, and the connection is settled for what
-- it stands for.
pub record IsFoundAlone (new : State) : Type 0 where
  pub is_open : IsTrue new.is_open
  pub only : (db : Trees) → new.may_leave db → db ≡ new.committed.trees
  pub settled : IsSettledInEach new
  pub blank : IsBlankByFound new

-- It found a database that might be left, on a disk that had been clean.
pub record FindsLeft (old new : State) : Type 0 where
  pub clean : HasCleanDisk new → HasCleanDisk old
  pub found : HasCleanDisk new → ∥ old.may_leave new.committed.trees ∥₁
  pub is : HasCleanDisk new → IsFoundAlone new

-- It found the database that was committed last, of a store that was open.
pub record FindsCommitted (old new : State) : Type 0 where
  pub clean : HasCleanDisk new → HasCleanDisk old
  pub was_open : HasCleanDisk new → IsTrue old.is_open
  pub found : HasCleanDisk new → new.committed.trees ≡ old.committed.trees
  pub is : HasCleanDisk new → IsFoundAlone new

module _ {D : Type 0} {g : Ghosts D} where
  -- of whichever connection the files hold what might be left
  abbrev pub FindsLeftIn : Files D → Held (FileStore D g) → Type 0
  FindsLeftIn files new =
      (old : Held (FileStore D g)) → AreLeftBy old files → FindsLeft (file_state old) (file_state new)

  -- of whichever connection they were closed
  abbrev pub FindsClosedIn : Files D → Held (FileStore D g) → Type 0
  FindsClosedIn files new =
      (old : Held (FileStore D g)) → AreClosed old files → FindsCommitted (file_state old) (file_state new)
