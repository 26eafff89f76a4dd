-- What work on a file found, and what it leaves.
use Rattle.std.specs.Prelude.{◌≡◌, ⊤, ℕ, Bool, true, false, List, [], Option, None, Result, Ok, Err, IsTrue}
use Rattle.sqlite_disk.specs.declared.Disk.{Ghosts}
use Rattle.sqlite_disk.specs.declared.Files.{Files}
use Rattle.sqlite.specs.Tree.{Trees}
use Rattle.sqlite_trees.specs.Objects.{catalog_tree}
use Rattle.sqlite.specs.Recovery.{Image}
use Rattle.sqlite.specs.WalFiles.{outcomes}
use Rattle.sqlite.specs.WalReads.{AreClean}
use Rattle.sqlite.specs.Files.{HoldsDatabase, AreFoundIn, IsNothing, LeavesFiles, IsCleanLeft, image_of}
use Rattle.sqlite.specs.State.{State, HasCleanDisk, IsLive, Opens}
use Rattle.sqlite.specs.Held.{AreDatabases}
use Rattle.sqlite_pages.specs.PageMap.{PageMap}
use Rattle.sqlite_pool.specs.Stored.{Adopts}
use Rattle.sqlite_store.specs.Listing.{IsOurs, file_trees}
use Rattle.sqlite_store.specs.declared.catalog.Wanted.{Wanted}
use Rattle.sqlite_store.specs.declared.store.FileStore.{FileStore}
use Rattle.sqlite_store.specs.FileStore as file
use Rattle.mm_definitions.specs.Keys.{Text}
use Rattle.mm_definitions.specs.Streams.{Written}
use Rattle.mm_files.specs.Files.{HoldNoByte, IsUntoldFor, IsWhyNot}
use Rattle.mm_files.specs.declared.left.NotDone.{NotDone}
use Rattle.mm_files.specs.declared.left.NotDone.TheVariants as why
use Rattle.sqlite.specs.declared.file.Leftover.{Leftover}
use Rattle.mm_files.specs.declared.left.Left.{Left}
use Rattle.mm_files.specs.declared.left.Left.TheVariants as left
use Rattle.mm_files.specs.declared.left.Opened.{Opened}
use Rattle.mm_files.specs.declared.left.Unclosed.{Unclosed}

-- ---- a connection

-- nothing but the last commit may be left
abbrev pub OnlyCommitted : State → Type 0
OnlyCommitted s = (db : Trees) → s.may_leave db → db ≡ s.committed.trees

-- it was just opened
abbrev pub IsJustOpened : State → Type 0
IsJustOpened s = Opens s × IsLive s × OnlyCommitted s

-- whether the files are to be closed behind work, by what the work came to: never where it was not done
abbrev pub closes_behind : {T Why : Type 0} → (T → Bool) → Result T Why → Bool
closes_behind closes (Ok done) = closes done
closes_behind closes (Err why) = false

-- What is said of the connection that work hands back, and of what it came to or why it was not done.
abbrev pub OnHanded : {C T Why : Type 0} → Result (C × T) (C × Why) → (C → Result T Why → Type 0) → Type 0
OnHanded (Ok done) says = says done.0 (Ok done.1)
OnHanded (Err undone) says = says undone.0 (Err undone.1)

-- ---- files

-- What an open found in files that held this: the database that they held, or no table where they held nothing.
pub record IsFoundIn (image : Image) (found : Trees) : Type 0 where
  pub holds : (db : Trees) → HoldsDatabase image db → found ≡ db
  pub reads : AreFoundIn image found
  pub nothing : IsNothing image → found catalog_tree ≡ []

-- The two files hold the database; where they were closed, the one file does with an empty journal.
pub record HoldsAfter (closed : Bool) (image : Image) (db : Trees) : Type 0 where
  pub both : HoldsDatabase image db
  pub alone : IsTrue closed → ∥ HoldsDatabase (record image { log = [] }) db ∥₁

-- The two files recover to pages of a sound file that read as the database, which obeys a schema: all that an open asks
-- of them but the numbers under which the file lists its trees.
pub record FilesReadAs (image : Image) (db : Trees) : Type 0 where
  pub size : ℕ
  pub pages : PageMap
  pub wanted : List Wanted
  pub found : Adopts size image pages
  pub ours : IsOurs size false wanted pages
  pub reads : db ≡ file_trees size wanted pages
  pub sound : AreDatabases (λ it. it ≡ db)

-- The two files read as the database; where the store was open still they hold it, so that the next open finds it.
pub record HoldsStill (is_open : Bool) (image : Image) (db : Trees) : Type 0 where
  pub reads : ∥ FilesReadAs image db ∥₁
  pub holds : IsTrue is_open → ∥ HoldsDatabase image db ∥₁

module _ {D : Type 0} (g : Ghosts D) where
  -- they hold this, and a crash leaves it
  pub record AreHeld (image : Image) (files : Files D) : Type 0 where
    pub seen : image_of g files ≡ image
    pub only : (left : Image) → outcomes g files.log files.db left → left ≡ image

  -- each thing that a crash, or none, may leave of the files holds such a database
  abbrev pub LeavesTo : (Trees → Type 0) → Bool → Files D → Type 0
  LeavesTo is closed files =
      (image : Image) → outcomes g files.log files.db image
      → ∥ ((after : Trees) × is after × HoldsAfter closed image after) ∥₁

  -- the two files of a store have returned what was written
  abbrev pub HasCleanFiles : FileStore D g → Type 0
  HasCleanFiles store = AreClean g (file.files store).0 (file.files store).1

  -- a crash, or none, may leave this of them
  abbrev pub MayLeave : FileStore D g → Image → Type 0
  MayLeave store image = outcomes g (file.files store).0 (file.files store).1 image

  -- so of files that could not be closed, by their store
  abbrev pub LeavesStill : (Trees → Type 0) → FileStore D g → Type 0
  LeavesStill is store = (image : Image) → MayLeave store image
      → ∥ ((after : Trees) × is after × HoldsStill (file.view store).is_open image after) ∥₁

  -- Files that could not be closed have returned what was written, their store is open still, and a crash, or none, may
  -- leave this of them.
  pub record IsLeftOpen (it : Unclosed D g) (image : Image) : Type 0 where
    pub clean : HasCleanFiles it.store
    pub up : IsTrue (file.view it.store).is_open
    pub left : MayLeave it.store image

  -- Where the files are clean the disk was, and they hold a database that might be left, also after a crash.
  pub record KeepsLeft (s : State) (closed : Bool) (files : Files D) : Type 0 where
    pub was_clean : AreClean g files.log files.db → HasCleanDisk s
    pub left : AreClean g files.log files.db → LeavesTo s.may_leave closed files

  -- so where they could not be closed
  pub record KeepsStill (s : State) (store : FileStore D g) : Type 0 where
    pub was_clean : HasCleanFiles store → HasCleanDisk s
    pub left : HasCleanFiles store → LeavesStill s.may_leave store

  module _ {Done : Type 0} (tells : Trees → Written → Written → Done → Type 0)
      (leaves : Trees → Trees → Written → Written → Done → Type 0)
      (closed : Bool) (old new : Written) (files : Files D) (done : Done) where
    -- each thing that a crash may leave of the files holds what the work leaves of this database
    abbrev pub LeavesOf : Trees → Type 0
    LeavesOf found = LeavesTo (λ after. leaves found after old new done) closed files

    -- of the database that a connection found
    pub record WorkedOn (s : State) : Type 0 where
      pub was_clean : AreClean g files.log files.db → HasCleanDisk s
      pub told : AreClean g files.log files.db → tells s.committed.trees old new done
      pub left : AreClean g files.log files.db → LeavesOf s.committed.trees

    -- of what was found in the files, by what they held as they were opened
    abbrev pub WorkedFrom : Image → Type 0
    WorkedFrom image =
        AreClean g files.log files.db
        → (found : Trees) × IsFoundIn image found × tells found old new done × LeavesOf found

  -- Work that came to its end, behind which the files could not be closed: what was found is told of, and each thing
  -- that a crash, or none, may leave of them reads as a database that the work leaves.
  module _ {Done : Type 0} (tells : Trees → Written → Written → Done → Type 0)
      (leaves : Trees → Trees → Written → Written → Done → Type 0)
      (closes : Done → Bool) (old new : Written) (store : FileStore D g) where
    -- of the database that a connection found
    pub record EndedOn (s : State) : Type 0 where
      pub done : Done
      pub ended : closes done ≡ true
      pub was_clean : HasCleanFiles store → HasCleanDisk s
      pub told : HasCleanFiles store → tells s.committed.trees old new done
      pub left : HasCleanFiles store → LeavesStill (λ after. leaves s.committed.trees after old new done) store

    -- of what was found in the files, by what they held as they were opened
    abbrev pub EndedFrom : Image → Type 0
    EndedFrom image = (done : Done) × (closes done ≡ true) × (HasCleanFiles store
        → (found : Trees) × IsFoundIn image found × tells found old new done
        × LeavesStill (λ after. leaves found after old new done) store)

  -- an open of files that held this failed, and what it leaves is said of them
  abbrev pub IsRefused : Image → Leftover D g → Type 0
  IsRefused image rest = IsCleanLeft rest → (files : Files D) × AreHeld image files × LeavesFiles files rest

  -- Of files that held this: none was opened; or an open failed, and what it leaves is said of them; or they were
  -- opened at this path, and could not be closed.
  abbrev pub IsUnworked : {S : Type 0} → Image → Text → Left D S g → Type 0
  IsUnworked image path (left.Untouched start) = ⊤
  IsUnworked image path left.Unopened = ⊤
  IsUnworked image path (left.Refused rest) = IsRefused image rest
  IsUnworked image path (left.Unclosed it) = it.path.now ≡ path
  IsUnworked image path (left.Worked opened) = ⊥

  -- no work was begun
  abbrev pub IsUnbegun : {S : Type 0} → Left D S g → Type 0
  IsUnbegun (left.Unclosed it) = ⊥
  IsUnbegun (left.Worked opened) = ⊥
  IsUnbegun rest = ⊤

  -- Where no work was begun nothing was printed.
  abbrev pub IsUnprinted : {S : Type 0} → Written → Written → Left D S g → Type 0
  IsUnprinted old new (left.Unclosed it) = ⊤
  IsUnprinted old new (left.Worked opened) = ⊤
  IsUnprinted old new rest = new ≡ old

  -- files that could not be closed are left as the work leaves them
  abbrev pub IsUnclosed : {S Done : Type 0} → (Trees → Written → Written → Done → Type 0)
      → (Trees → Trees → Written → Written → Done → Type 0)
      → (Done → Bool) → Written → Written → Image → Left D S g → Type 0
  IsUnclosed tells leaves closes old new image (left.Unclosed it) =
      EndedFrom tells leaves closes old new it.store image
  IsUnclosed tells leaves closes old new image rest = ⊤

  -- bytes are told where they stand, and of files alone that were opened
  abbrev pub TellsFileBytes : {S : Type 0} → Image → NotDone → Left D S g → Type 0
  TellsFileBytes image why.NotEmpty (left.Refused rest) = IsCleanLeft rest → HoldNoByte image → ⊥
  TellsFileBytes image why.NotEmpty other = ⊥
  TellsFileBytes image (why.Fault fault) rest = ⊤

-- ---- work on a file

-- Work on the files at a path, of so many bytes, or new ones, by what they held as they were opened, by what the work
-- comes to, tells and leaves, and behind what it closes them, and by what was printed before and then is.
module _ {D Done : Type 0} (g : Ghosts D) (image : Image) (path : Text) (bytes : Option ℕ)
    (comes_to : Written → Written → Done → Type 0) (tells : Trees → Written → Written → Done → Type 0)
    (leaves : Trees → Trees → Written → Written → Done → Type 0) (closes : Done → Bool) (old new : Written) where
  -- it was done
  pub record HasWorked (opened : Opened D) (done : Done) : Type 0 where
    -- it came to this
    pub came : comes_to old new done
    -- on the files at that path
    pub there : opened.path.now ≡ path
    -- new files held no byte
    pub bare : bytes ≡ None → AreClean g opened.files.log opened.files.db → HoldNoByte image
    -- it is told of the database that was found, and what is left of the files is as the work leaves it
    pub worked : WorkedFrom g tells leaves (closes done) old new opened.files done image

  -- it was not done, or could not be told, for this cause
  pub record HasNotWorked {S : Type 0} (rest : Left D S g) (cause : NotDone) : Type 0 where
    -- bytes that stand in new files, or a fault of the store
    pub why : IsWhyNot bytes cause
    -- bytes are told where they stand
    pub stand : TellsFileBytes g image cause rest
    -- what an open that failed leaves is said of the files
    pub left : IsUnworked g image path rest
    -- files that could not be closed are left as the work leaves them
    pub unclosed : IsUnclosed g tells leaves closes old new image rest
    -- where no work was begun nothing was printed
    pub unprinted : IsUnprinted g old new rest
    -- nothing was printed, or the work was done to its end
    pub untold : IsUntoldFor comes_to closes old new cause

-- ---- from one to the next

-- what one thing leaves of what the other leaves
abbrev pub Both : (Trees → Trees → Type 0) → (Trees → Trees → Type 0) → Trees → Trees → Type 0
Both first second db after = ∥ ((between : Trees) × first db between × second between after) ∥₁

-- Work on files that held an image, a crash or none that left of them another, and work on files that held that: of the
-- database that the first files held, each thing that a crash may now leave holds what both leave.
abbrev pub IsNextRun : {D E : Type 0} → Ghosts D → Ghosts E → Image → Image → Bool → Bool → (Trees → Trees → Type 0)
    → (Trees → Trees → Type 0)
    → Files D → Files E → Type 0
IsNextRun g h image next closed ended first second files left =
    ((db : Trees) → HoldsDatabase image db → LeavesTo g (first db) closed files) → outcomes g files.log files.db next
    → ((db : Trees) → HoldsDatabase next db → LeavesTo h (second db) ended left)
    → (db : Trees) → HoldsDatabase image db → LeavesTo h (Both first second db) ended left
