-- What the import of a kit promises, by what commands are applied to, and by a folder.
use Rattle.std.specs.Prelude.{◌≡◌, ◌≢◌, ◌≤◌, Bool, false, true, length, List, Option, Result, Err, IfOk, IfErr}
use Rattle.mm_definitions.specs.Faults.{reopen, input}
use Rattle.mm_definitions.specs.Keys.{Text}
use Rattle.mm_definitions.specs.Package.{Package}
use Rattle.mm_definitions.specs.declared.answers.KitFault.{KitFault}
use Rattle.mm_definitions.specs.declared.answers.Staged.{Staged}
use Rattle.mm_definitions.specs.declared.commands.Piece.{Piece}
use Rattle.mm_run.specs.Runs.{OnSound}
use Rattle.mm_run.specs.Sessions.{shown_since}
use Rattle.mm_run.specs.Shown.{Shown}
use Rattle.mm_run.specs.declared.apply.Apply as applies
use Rattle.mm_kit.specs.Editions.{HasPieces}
use Rattle.mm_kit.specs.Imports.{AreImported, AreStaged, AreStagedOn, AsksForPackage, ImportEnded, ImportTellsReopening}
use Rattle.mm_kit.specs.Imports.{ImportWorksOn, IsImportAnswered, IsImportKept, IsImportStopped, IsKitFault}
use Rattle.mm_kit.specs.Imports.{IsStillKept, MayBeStaged, OnKit, TellsFolder}
use Rattle.mm_kit.specs.Folders.{Files}
use Rattle.mm_kit.specs.declared.entries.KitEntry.{KitEntry}
use Rattle.mm_kit.specs.declared.folders.Folder as folders

-- What an import promises of the package, by what the editor was settled for, what the folder told, whether the editor
-- had failed, and what it shows now, by that package.
pub record Imports {D : Type 0} (name : Text) (clean : Type 0) (settled : Package → Type 0) (told : Option Files)
    (before : Bool)
    (shows : Package → Shown D) (result : Result Staged KitFault) : Type 0 where
  -- The answer is that of the kit on the package, and the editor is settled for one whose edition has grown along the
  -- kit.
  pub answered : IfOk result (λ a. OnKit clean settled told
      (λ files p. IsImportAnswered files name p (shows p).settled a))
  -- With a fault each database that may be left stands for such a package, with as many pieces as were answered ok, or
  -- one more.
  pub stopped : IfErr result (λ e. OnKit clean settled told
      (λ files p. IsImportStopped files name p (shows p).may_leave (shows p).stands_for e.staged))
  -- Where the editor has not failed in the import it works on: it is settled for such a package, with as many pieces as
  -- were answered ok.
  pub works : IfErr result (λ e. OnKit clean settled told
      (λ files p. (shows p).failed ≡ before → ImportWorksOn files name p (shows p).settled e.staged))
  -- Of every folder, one that tells nothing too: the rules hold, and nothing but the edition's pieces has changed, of
  -- which none is lost.
  pub kept : OnSound clean settled (λ p. IsImportKept name p (shows p).settled (shows p).may_leave (shows p).stands_for
      result)
  -- Where the editor works on after a fault, it is settled for such a package.
  pub still_kept : IfErr result (λ e. OnSound clean settled
      (λ p. (shows p).failed ≡ before → IsStillKept name p (shows p).settled))

-- It imports the kit of a folder into an edition.
pub record ImportsKit {A F : Type 0} (apply : applies.Ghosts A) (shelf : folders.Ghosts F) (name : Text)
    (old new : A) (kit kit_now : F) (result : Result Staged KitFault) : Type 0 where
  -- A store that is clean after the import was clean before it.
  pub clean : apply.is_clean new → apply.is_clean old
  -- Of an editor that reads as a package, whatever a crash would leave of it: it reads then as a package that has grown
  -- along the kit. Each database that may be left stands for one, or might be left before the import, and then it
  -- counts for the package that the editor read as. So one that was settled is settled then (`imports_settled`).
  pub seen : Imports name (apply.is_clean new) (apply.seen old) (shelf.files kit) (apply.has_failed old)
      (λ p. shown_since apply old p new)
      result
  -- An editor that has failed is left as it was, and 92 comes only there.
  pub session : ImportTellsReopening (apply.has_failed old) (apply.has_failed new) (new ≡ old) result
  -- It is told 92 at the first need of the package, which is the edition's state, behind the list; there is no want of
  -- memory there.
  pub ended : apply.has_failed old ≡ true → ImportEnded (shelf.files kit) result
  -- The package is asked only where the list is a kit's.
  pub needed : IfErr result (λ e. e.fault.0 ≡ reopen.0 → AsksForPackage (shelf.files kit))
  -- 96 is the folder's, and the folder tells it.
  pub folder : TellsFolder (shelf.has_failed kit) (shelf.has_failed kit_now) result
  -- The other faults are 90, 91 and 92.
  pub why : IfErr result (λ e. IsKitFault e.fault.0)

-- ---- inside the import

-- The same of the entries of the kit's list.
pub record ImportsEntries {A F : Type 0} (apply : applies.Ghosts A) (shelf : folders.Ghosts F) (name : Text)
    (entries : List KitEntry)
    (old new : A) (kit kit_now : F) (result : Result Staged KitFault) : Type 0 where
  pub clean : apply.is_clean new → apply.is_clean old
  pub answered : IfOk result (λ a. OnKit (apply.is_clean new) (apply.seen old) (shelf.files kit)
      (λ files p. AreImported files name entries p (shown_since apply old p new).settled a))
  pub stopped : IfErr result (λ e. OnKit (apply.is_clean new) (apply.seen old) (shelf.files kit)
      (λ files p. MayBeStaged files name entries p (apply.may_leave new) (shown_since apply old p new).stands_for
      e.staged))
  pub works : IfErr result (λ e. OnKit (apply.is_clean new) (apply.seen old) (shelf.files kit)
      (λ files p. apply.has_failed new ≡ apply.has_failed old
      → AreStagedOn files name entries p (shown_since apply old p new).settled e.staged))
  pub session : ImportTellsReopening (apply.has_failed old) (apply.has_failed new) (new ≡ old) result
  pub kept : OnSound (apply.is_clean new) (apply.seen old)
      (λ p. IsImportKept name p (shown_since apply old p new).settled (apply.may_leave new)
      (shown_since apply old p new).stands_for result)
  pub still_kept : IfErr result (λ e. OnSound (apply.is_clean new) (apply.seen old)
      (λ p. apply.has_failed new ≡ apply.has_failed old → IsStillKept name p (shown_since apply old p new).settled))
  -- The edition's state is asked before anything else, so an editor that has failed is answered 92 and nothing else.
  pub ended : apply.has_failed old ≡ true → result ≡ Err (record { fault = reopen; staged = 0 })
  pub folder : TellsFolder (shelf.has_failed kit) (shelf.has_failed kit_now) result
  pub why : IfErr result (λ e. IsKitFault e.fault.0)

-- The same where the edition is open, and the editor has not failed: the entries are staged in order.
pub record StagesEntries {A F : Type 0} (apply : applies.Ghosts A) (shelf : folders.Ghosts F) (name : Text)
    (entries : List KitEntry)
    (old new : A) (kit kit_now : F) (result : Result Staged KitFault) : Type 0 where
  pub clean : apply.is_clean new → apply.is_clean old
  pub answered : IfOk result (λ a. OnKit (apply.is_clean new) (apply.seen old) (shelf.files kit)
      (λ files p. (pieces : List Piece) → HasPieces p name pieces → length pieces ≤ length entries
      → AreStaged files name entries p pieces (shown_since apply old p new).settled a))
  pub stopped : IfErr result (λ e. OnKit (apply.is_clean new) (apply.seen old) (shelf.files kit)
      (λ files p. (pieces : List Piece) → HasPieces p name pieces
      → MayBeStaged files name entries p (apply.may_leave new) (shown_since apply old p new).stands_for e.staged))
  pub works : IfErr result (λ e. OnKit (apply.is_clean new) (apply.seen old) (shelf.files kit)
      (λ files p. (pieces : List Piece) → HasPieces p name pieces → apply.has_failed new ≡ apply.has_failed old
      → AreStagedOn files name entries p (shown_since apply old p new).settled e.staged))
  -- An answer leaves the editor working, and so does a fault of the folder. 92 is not answered.
  pub session : IfOk result (λ a. apply.has_failed new ≡ false)
  pub fault : IfErr result (λ e. (e.fault.0 ≢ reopen.0) × (e.fault.0 ≡ input.0 → apply.has_failed new ≡ false))
  pub kept : OnSound (apply.is_clean new) (apply.seen old)
      (λ p. (pieces : List Piece) → HasPieces p name pieces
      → IsImportKept name p (shown_since apply old p new).settled (apply.may_leave new)
      (shown_since apply old p new).stands_for result)
  pub still_kept : IfErr result (λ e. OnSound (apply.is_clean new) (apply.seen old)
      (λ p. (pieces : List Piece) → HasPieces p name pieces → apply.has_failed new ≡ apply.has_failed old
      → IsStillKept name p (shown_since apply old p new).settled))
  pub folder : TellsFolder (shelf.has_failed kit) (shelf.has_failed kit_now) result
  pub why : IfErr result (λ e. IsKitFault e.fault.0)
