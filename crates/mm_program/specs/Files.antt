-- Why a file is not opened, and what is left of one.
use Rattle.std.specs.Prelude.{◌≡◌, ◌≤◌, ◌⊎◌, ⊤, ℕ, Bool, true, Result, Err, length}
use Rattle.sqlite_disk.specs.declared.Disk.{Ghosts}
use Rattle.sqlite.specs.Tree.{Trees}
use Rattle.sqlite.specs.Recovery.{Image}
use Rattle.sqlite.specs.WalReads.{AreClean}
use Rattle.mm_definitions.specs.Keys.{Text}
use Rattle.mm_definitions.specs.Streams.{Written}
use Rattle.mm_definitions.specs.Faults.{IsStoreFault}
use Rattle.mm_files.specs.Files.{HoldNoByte}
use Rattle.mm_files.specs.Worked.{HasCleanFiles, IsFoundIn, IsRefused, IsUnprinted, LeavesStill, LeavesTo}
use Rattle.mm_files.specs.declared.left.NotDone.{NotDone}
use Rattle.mm_files.specs.declared.left.NotDone.TheVariants as why
use Rattle.mm_files.specs.declared.left.Left.{Left}
use Rattle.mm_files.specs.declared.left.Left.TheVariants as left
use Rattle.mm_files.specs.declared.left.Opened.{Opened}
use Rattle.mm_files.specs.declared.left.Unclosed.{Unclosed}
use Rattle.mm_kit.specs.declared.folders.Found.{Found}
use Rattle.mm_kit.specs.declared.folders.Found.TheVariants as found
use Rattle.mm_work.specs.declared.stop.Stop.{Stop}
use Rattle.mm_work.specs.declared.stop.Stop.TheVariants as stops
pub use Rattle.mm_program.specs.Stops.{StopsAny, StopsNew, StopsOld, StopsOn}

-- why work on a file was not done, as it is told
abbrev pub stop_for : NotDone → Stop
stop_for why.NotEmpty = stops.NotEmpty
stop_for (why.Fault fault) = stops.Fault fault

-- Nothing was printed; or the work was done to its end, and the files could not be closed behind it.
abbrev pub IsUndone : {Done : Type 0} → (Written → Written → Done → Type 0) → (Done → Bool) → Written → Written → Stop
    → Type 0
IsUndone {Done} comes_to closes old new stop =
    (new ≡ old) ⊎ (StopsAny stop × (done : Done) × comes_to old new done × (closes done ≡ true))

-- want of memory, or the store
abbrev pub StopsStore : Stop → Type 0
StopsStore (stops.Fault fault) = IsStoreFault fault
StopsStore other = ⊥

-- ---- what is left of the files

-- The files at this path could not be closed behind work that came to its end: the store tells why, the database that
-- was found in them is told of, and each thing that a crash, or none, may leave of them is as the work leaves it.
module _ {D Done : Type 0} (g : Ghosts D) (image : Image) (path : Text) (tells : Trees → Done → Type 0)
    (leaves : Trees → Trees → Done → Type 0) (closes : Done → Bool) (why : Stop) where
  abbrev pub OffClose : Unclosed D g → Type 0
  OffClose it = StopsStore why × (it.path.now ≡ path) × ((ended : Done) × (closes ended ≡ true)
      × (HasCleanFiles g it.store → (found : Trees) × IsFoundIn image found × tells found ended
      × LeavesStill g (λ after. leaves found after ended) it.store))

-- Of the files at this path, by what they held as they were opened, and by why work on them is not told: no file was
-- opened, for such a cause; the system did not open them; an open failed, and what it leaves is said of them; or they
-- could not be closed behind work that came to its end, and what that tells and leaves is said of them.
module _ {D Done : Type 0} (g : Ghosts D) (image : Image) (path : Text) (IsCause : Stop → Type 0)
    (tells : Trees → Done → Type 0) (leaves : Trees → Trees → Done → Type 0) (closes : Done → Bool) (why : Stop) where
  abbrev pub OffFile : {S : Type 0} → Left D S g → Type 0
  OffFile (left.Untouched start) = IsCause why
  OffFile left.Unopened = StopsStore why
  OffFile (left.Refused rest) = IsCause why × IsRefused g image rest
  OffFile (left.Unclosed it) = OffClose g image path tells leaves closes why it
  OffFile (left.Worked opened) = ⊥

-- The database that was found in the files at this path is told of, and each thing that a crash, or none, may leave of
-- them holds what the work leaves of it.
module _ {D T : Type 0} (g : Ghosts D) (image : Image) (path : Text) (tells : Trees → Result T Stop → Type 0)
    (leaves : Trees → Trees → Result T Stop → Type 0) (closes : Result T Stop → Bool) (done : Result T Stop) where
  abbrev pub OnOpened : Opened D → Type 0
  OnOpened opened = (opened.path.now ≡ path) × (AreClean g opened.files.log opened.files.db
      → (found : Trees) × IsFoundIn image found × tells found done
      × LeavesTo g (λ after. leaves found after done) (closes done) opened.files)

-- So it is; or why it is not is told.
abbrev pub OnFile : {D T S : Type 0} (g : Ghosts D) → Image → Text → (Stop → Type 0) → (Trees → Result T Stop → Type 0)
    → (Trees → Trees → Result T Stop → Type 0) → (Result T Stop → Bool) → Result T Stop → Left D S g → Type 0
OnFile g image path IsCause tells leaves closes done (left.Worked opened) =
    OnOpened g image path tells leaves closes done opened
OnFile g image path IsCause tells leaves closes done rest =
    (why : Stop) × (done ≡ Err why) × OffFile g image path IsCause tells leaves closes why rest

-- ---- what work on them came to

-- The work came to this; or why it was not done, or not told, is told, for such a cause.
module _ {D T : Type 0} {g : Ghosts D} (IsCause : Stop → Type 0) (comes_to : Written → Written → Result T Stop → Type 0)
    (closes : Result T Stop → Bool) (old new : Written) (done : Result T Stop) where
  abbrev pub WorkEnds : {S : Type 0} → Left D S g → Type 0
  WorkEnds (left.Worked opened) = comes_to old new done
  WorkEnds rest = (why : Stop) × (done ≡ Err why) × IsCause why × IsUndone comes_to closes old new why

-- Work on the files at this path, by what they held, the causes for which it is not done, what it comes to, tells and
-- leaves, behind what it closes them, and what was printed before and then is.
module _ {D T : Type 0} (g : Ghosts D) (image : Image) (path : Text) (IsCause : Stop → Type 0)
    (comes_to : Written → Written → Result T Stop → Type 0) (tells : Trees → Written → Written → Result T Stop → Type 0)
    (leaves : Trees → Trees → Written → Written → Result T Stop → Type 0) (closes : Result T Stop → Bool)
    (old new : Written) (done : Result T Stop) where
  pub record WorksOnFile {S : Type 0} (rest : Left D S g) : Type 0 where
    -- it came to this, or why it did not is told
    pub ended : WorkEnds IsCause comes_to closes old new done rest
    -- the database that was found is told of, and what is left of the files is as the work leaves it
    pub files : OnFile g image path IsCause (λ found it. tells found old new it)
        (λ found after it. leaves found after old new it) closes done rest
    -- where no work was begun nothing was printed
    pub unprinted : IsUnprinted g old new rest

-- ---- files that held nothing, or were not opened

-- they held no byte
abbrev pub WereBare : {D : Type 0} (g : Ghosts D) → Image → Opened D → Type 0
WereBare g image opened = AreClean g opened.files.log opened.files.db → HoldNoByte image

-- files that were worked on held no byte
abbrev pub WasBare : {D S : Type 0} (g : Ghosts D) → Image → Left D S g → Type 0
WasBare g image (left.Worked opened) = WereBare g image opened
WasBare g image rest = ⊤

-- no file was opened
abbrev pub IsUntouched : {D S : Type 0} {g : Ghosts D} → Left D S g → Type 0
IsUntouched (left.Untouched start) = ⊤
IsUntouched rest = ⊥

-- no more bytes of a file than were asked for
abbrev pub IsFew : ℕ → Found → Type 0
IsFew most (found.Bytes bytes) = length bytes.items ≤ most
IsFew most found.TooLong = ⊤
IsFew most found.Missing = ⊤
