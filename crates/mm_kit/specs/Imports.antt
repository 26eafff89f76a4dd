-- What an import of a kit does.
use Rattle.std.specs.Prelude.{◌≡◌, ◌≢◌, ◌≤◌, ◌⊎◌, ◌+◌, ◌==◌, ◌||◌, ℕ, pos, max, length, Bool, true, false, List, []}
use Rattle.std.specs.Prelude.{◌∷◌, ◌++◌, Option, Some, None, Result, Ok, Err, IfSome, ⊤}
use Rattle.std.specs.FinMap.{get}
use Rattle.mm_definitions.specs.declared.refusals.TheConstants.{OUT_OF_LIMITS, NO_FILE}
use Rattle.mm_definitions.specs.Faults.{memory, store, reopen, input}
use Rattle.mm_definitions.specs.Keys.{Text, PieceKey}
use Rattle.mm_definitions.specs.Package.{Package}
use Rattle.mm_definitions.specs.Rules.{Meets}
use Rattle.mm_definitions.specs.Bounds.{current}
use Rattle.mm_definitions.specs.Step.{refusal, step}
use Rattle.mm_definitions.specs.declared.commands.Command.TheVariants as commands
use Rattle.mm_definitions.specs.declared.commands.Piece.{Piece}
use Rattle.mm_definitions.specs.declared.answers.Fault.{Fault}
use Rattle.mm_definitions.specs.Refusals.{Refusal}
use Rattle.mm_definitions.specs.declared.answers.Staged.{Staged}
use Rattle.mm_definitions.specs.declared.answers.Staged.TheVariants.{Complete, Refused}
use Rattle.mm_definitions.specs.declared.answers.KitFault.{KitFault}
use Rattle.mm_run.specs.Applied.{IsSound, LeavesEither}
use Rattle.mm_run.specs.Shown.{Shown}
use Rattle.mm_kit.specs.Editions.{Edition, HasPieces, IsEdition}
use Rattle.mm_kit.specs.Folders.{Files}
use Rattle.mm_kit.specs.Kits.{IsWholeKit, against, edition_answer, filled, error_of, first_answer, first_number}
use Rattle.mm_kit.specs.Kits.{kit_answer, kit_of, kit_pieces}
use Rattle.mm_kit.specs.Lists.{IsKitList}
use Rattle.mm_kit.specs.declared.entries.KitEntry.{KitEntry}

-- the one list is a front of the other, or all of it
abbrev pub IsFirstOf : List Piece → List Piece → Type 0
IsFirstOf front all = (rest : List Piece) × (all ≡ front ++ rest)

-- nothing of the package but the pieces of this edition differs
pub record SameBut (name : Text) (p q : Package) : Type 0 where
  pub parts : q ≡ record p { pieces = q.pieces }
  pub others : (k : PieceKey) → (k.edition ≢ name) → get q.pieces k ≡ get p.pieces k

-- the edition's pieces were a first part of the kit, and are one that is as long at least
pub record IsGrown (name : Text) (kit : List Piece) (p q : Package) : Type 0 where
  pub old : List Piece
  pub new : List Piece
  pub before : HasPieces p name old
  pub after : HasPieces q name new
  pub more : IsFirstOf old new
  pub of_kit : IsFirstOf new kit
  pub same : SameBut name p q

-- the package is as it was, or its edition has grown along the kit
abbrev pub OnlyGrows : Text → List Piece → Package → Package → Type 0
OnlyGrows name kit p q = (q ≡ p) ⊎ IsGrown name kit p q

-- ---- an import that is answered

-- complete: the kit is whole, has so many pieces, and they are the edition's
pub record HasWhole (files : Files) (name : Text) (entries : List KitEntry) (q : Package) (n : ℕ) : Type 0 where
  pub whole : IsWholeKit files entries
  pub pieces : HasPieces q name (kit_pieces files entries)
  pub count : length (kit_pieces files entries) ≡ n

-- refused for a file: where the edition's pieces were a first part of the kit, they are the kit
abbrev pub HasFirst : Files → Text → List KitEntry → Package → Package → ℕ → Type 0
HasFirst files name entries p q number =
    (number ≡ NO_FILE) ⊎ (number ≡ OUT_OF_LIMITS) → (old : List Piece) → HasPieces p name old
    → IsFirstOf old (kit_pieces files entries) → HasPieces q name (kit_pieces files entries)

-- what q, the package after the import, has of the kit by the answer; where the list is refused it can't be complete
abbrev pub HasAnswered : Files → Text → Result (List KitEntry) (ℕ × ℕ) → Package → Package → Staged → Type 0
HasAnswered files name (Ok entries) p q (Complete n) = HasWhole files name entries q n
HasAnswered files name (Ok entries) p q (Refused place number) = HasFirst files name entries p q number
HasAnswered files name (Err at) p q (Complete n) = ⊥
HasAnswered files name (Err at) p q (Refused place number) = ⊤

-- The answer is that of the kit on the package, and the session is then settled for a package that has grown along the
-- kit.
pub record IsImportAnswered (files : Files) (name : Text) (p : Package) (settled : Package → Type 0)
    (answer : Staged) : Type 0 where
  pub list : Result (List KitEntry) (ℕ × ℕ)
  pub read : IsKitList files list
  pub edition : Option Edition
  pub stands : IsEdition p name edition
  pub answer_is : answer ≡ kit_answer files list edition
  pub next : Package
  pub sound : IsSound settled next
  pub grows : OnlyGrows name (kit_of files list) p next
  pub has : HasAnswered files name list p next answer

-- ---- one that is stopped

-- the pieces of an edition that was open, after s pieces were answered ok: as many as before or s, or one more, which
-- is in doubt
abbrev pub IsCounted : ℕ → Text → Package → Package → Type 0
IsCounted s name p q = (old : List Piece) → HasPieces p name old
    → (new : List Piece) × HasPieces q name new
    × ((length new ≡ max (length old) s) ⊎ ((length old ≤ s) × (length new ≡ s + 1)))

-- the same where none is in doubt
abbrev pub HasCounted : ℕ → Text → Package → Package → Type 0
HasCounted s name p q = (old : List Piece) → HasPieces p name old → (new : List Piece) × HasPieces q name new
    × (length new ≡ max (length old) s)

-- the package is as it was, or its edition has grown along the kit of the folder
abbrev pub GrowsAlong : Files → Text → Package → Package → Type 0
GrowsAlong files name p q = (q ≡ p)
    ⊎ ((list : Result (List KitEntry) (ℕ × ℕ)) × IsKitList files list × IsGrown name (kit_of files list) p q)

-- each database that may be left stands for such a package, which meets the rules
abbrev pub IsImportStopped : {D : Type 0} → Files → Text → Package → (D → Type 0) → (D → Package → Type 0) → ℕ → Type 0
IsImportStopped {D} files name p may_leave stands_for s =
    (db : D) → may_leave db → (q : Package) × stands_for db q × Meets current q × GrowsAlong files name p q
    × IsCounted s name p q

-- the session is settled for such a package, and no piece is in doubt
abbrev pub ImportWorksOn : Files → Text → Package → (Package → Type 0) → ℕ → Type 0
ImportWorksOn files name p settled s = (q : Package) × IsSound settled q × GrowsAlong files name p q
    × HasCounted s name p q

-- ---- what is promised where

-- of a folder that tells its files, and of a session that is settled for a package of the rules, where the store was
-- clean
abbrev pub OnKit : Type 0 → (Package → Type 0) → Option Files → (Files → Package → Type 0) → Type 0
OnKit clean settled told P = clean → (p : Package) → IsSound settled p → (files : Files) → told ≡ Some files → P files p

-- a fault of an import: 90 want of memory, 91 the store, 92 open again, or 96 the folder
abbrev pub IsKitFault : ℕ → Type 0
IsKitFault fault = (fault ≡ memory.0) ⊎ (fault ≡ store.0) ⊎ (fault ≡ reopen.0) ⊎ (fault ≡ input.0)

-- an import told that the folder failed
abbrev pub is_folders : Result Staged KitFault → Bool
is_folders (Ok a) = false
is_folders (Err e) = e.fault.0 == input.0

-- the folder has failed where it had before, or where 96 is told, and nowhere else
abbrev pub TellsFolder : Bool → Bool → Result Staged KitFault → Type 0
TellsFolder before failed result = failed ≡ (before || is_folders result)

-- ---- what is promised of every folder, one that tells nothing too

-- the edition has no fewer pieces than it had: these come first
abbrev pub KeepsPieces : Text → Package → Package → Type 0
KeepsPieces name p q = (old : List Piece) → HasPieces p name old → (new : List Piece) × HasPieces q name new
    × IsFirstOf old new

-- nothing but the edition's pieces differs, and those that it had stand
abbrev pub KeepsOthers : Text → Package → Package → Type 0
KeepsOthers name p q = SameBut name p q × KeepsPieces name p q

-- The session is settled for such a package, or each database that may be left stands for one, and it meets the rules.
abbrev pub IsImportKept : {D : Type 0} → Text → Package → (Package → Type 0) → (D → Type 0) → (D → Package → Type 0)
    → Result Staged KitFault → Type 0
IsImportKept name p settled may_leave stands_for (Ok a) = (q : Package) × IsSound settled q × KeepsOthers name p q
IsImportKept {D} name p settled may_leave stands_for (Err e) = (db : D) → may_leave db → (q : Package) × stands_for db q
    × Meets current q × KeepsOthers name p q

-- the session is settled for such a package, which meets the rules
abbrev pub IsStillKept : Text → Package → (Package → Type 0) → Type 0
IsStillKept name p settled = (q : Package) × IsSound settled q × KeepsOthers name p q

-- the list of the folder is a kit's, so its pieces are to be staged
abbrev pub AsksForPackage : Option Files → Type 0
AsksForPackage told = (files : Files) → told ≡ Some files → (entries : List KitEntry) × IsKitList files (Ok entries)

-- What an import tells of a session that has to be opened again: it is as it was, nothing is staged, and 92 comes only
-- there.
abbrev pub ImportTellsReopening : Bool → Bool → Type 0 → Result Staged KitFault → Type 0
ImportTellsReopening before failed same (Ok a) = (failed ≡ before) × (before ≡ true → same)
ImportTellsReopening before failed same (Err e) =
    (e.fault.0 ≡ reopen.0 → before ≡ true) × (e.fault.0 ≡ input.0 → failed ≡ before)
    × (before ≡ true → same × (e.staged ≡ 0))

-- What is told on a session that has to be opened again: 92 where the list is a kit's. Before that there may be no
-- memory for the list (90), or the folder fails (96). Only a list that is refused is answered.
abbrev pub ImportEnded : Option Files → Result Staged KitFault → Type 0
ImportEnded told (Ok (Complete n)) = ⊥
ImportEnded told (Ok (Refused place number)) = IfSome told (λ files. IsKitList files (Err (place, number)))
ImportEnded told (Err e) = (e.staged ≡ 0)
    × ((e.fault.0 ≡ memory.0) ⊎ (e.fault.0 ≡ input.0) ⊎ ((e.fault.0 ≡ reopen.0) × AsksForPackage told))

-- ---- inside the import

-- done are the pieces of the entries so far: they are passed over while they stand, or they are all that stands
abbrev pub IsPassed : Text → Package → List Piece → List Piece → Package → Type 0
IsPassed name p old done q = ((q ≡ p) × IsFirstOf done old)
    ⊎ (IsFirstOf old done × HasPieces q name done × SameBut name p q)

-- so many pieces stand, and those that stood before come first
abbrev pub IsPassedBy : ℕ → Text → Package → List Piece → Package → Type 0
IsPassedBy k name p old q = (new : List Piece) × HasPieces q name new × (k ≤ length new) × IsFirstOf old new
    × SameBut name p q

-- the piece of an entry, or the number that its file is refused with, by the files of a folder that tells them
abbrev pub IsFilled : Option Files → KitEntry → Result Piece ℕ → Type 0
IsFilled told e full = IfSome told (λ files. full ≡ filled files e)

-- What became of the entry of this number. It was staged; or it was refused, for its file or as a command, and the
-- session is settled for the package as it was. A fault came before the command, and then it is so too; or it has
-- failed the session, and the command may be done or not.
abbrev pub IsEntryStaged : {D : Type 0} → Option Files → KitEntry → Text → ℕ → Package → ℕ → Shown D
    → Result (Option ℕ) Fault → Type 0
IsEntryStaged told e name n p moment shows (Ok None) =
    (x : Piece) × IsFilled told e (Ok x) × (refusal p (commands.Stage name (pos n) x) ≡ None)
    × IsSound shows.settled (step p (commands.Stage name (pos n) x) moment)
IsEntryStaged told e name n p moment shows (Ok (Some number)) =
    IsSound shows.settled p × (IsFilled told e (Err number)
    ⊎ ((x : Piece) × IsFilled told e (Ok x) × (why : Refusal) × (why.number ≡ number)
    × (refusal p (commands.Stage name (pos n) x) ≡ Some why)))
IsEntryStaged told e name n p moment shows (Err fault) =
    (IsSound shows.settled p × (shows.failed ≡ false))
    ⊎ ((shows.failed ≡ true) × (x : Piece) × IsFilled told e (Ok x)
    × Meets current (step p (commands.Stage name (pos n) x) moment)
    × LeavesEither shows p (commands.Stage name (pos n) x) moment)

-- the staging of an entry told that the folder failed
abbrev pub is_of_folder : {T : Type 0} → Result T Fault → Bool
is_of_folder (Ok a) = false
is_of_folder (Err fault) = fault.0 == input.0

-- After k entries, where these are left: what is still to be staged, and the answer, are those of the entries left.
pub record IsImportedSoFar (files : Files) (name : Text) (entries left : List KitEntry) (p : Package) (old : List Piece)
    (k : ℕ) (q : Package) : Type 0 where
  pub done : List Piece
  pub count : length done ≡ k
  pub kit : kit_pieces files entries ≡ done ++ kit_pieces files left
  pub whole : first_number (λ i e. error_of (filled files e)) 1 entries
      ≡ first_number (λ i e. error_of (filled files e)) (k + 1) left
  pub answer : first_number (against files old) 1 entries ≡ first_number (against files old) (k + 1) left
  pub passed : IsPassed name p old done q

-- what staging the entries comes to, in an edition that has these pieces
pub record AreStaged (files : Files) (name : Text) (entries : List KitEntry) (p : Package) (old : List Piece)
    (settled : Package → Type 0) (answer : Staged) : Type 0 where
  pub answer_is : answer ≡ first_answer (length entries) (first_number (against files old) 1 entries)
  pub next : Package
  pub sound : IsSound settled next
  pub grows : OnlyGrows name (kit_pieces files entries) p next
  pub has : HasAnswered files name (Ok entries) p next answer

-- Where staging stopped after s pieces were answered ok, each database that may be left stands for a package that meets
-- the rules: as it was, or with the edition grown along the kit, and with as many pieces as `IsCounted` says.
abbrev pub MayBeStaged : {D : Type 0} → Files → Text → List KitEntry → Package → (D → Type 0) → (D → Package → Type 0)
    → ℕ → Type 0
MayBeStaged {D} files name entries p may_leave stands_for s =
    (db : D) → may_leave db → (q : Package) × stands_for db q × Meets current q
    × OnlyGrows name (kit_pieces files entries) p q × IsCounted s name p q

-- the same where the session works on, and no piece is in doubt
abbrev pub AreStagedOn : Files → Text → List KitEntry → Package → (Package → Type 0) → ℕ → Type 0
AreStagedOn files name entries p settled s = (q : Package) × IsSound settled q
    × OnlyGrows name (kit_pieces files entries) p q × HasCounted s name p q

-- what the import of the entries comes to
pub record AreImported (files : Files) (name : Text) (entries : List KitEntry) (p : Package)
    (settled : Package → Type 0) (answer : Staged) : Type 0 where
  pub edition : Option Edition
  pub stands : IsEdition p name edition
  pub answer_is : answer ≡ edition_answer files entries edition
  pub next : Package
  pub sound : IsSound settled next
  pub grows : OnlyGrows name (kit_pieces files entries) p next
  pub has : HasAnswered files name (Ok entries) p next answer

-- ---- imports that are repeated

-- q comes from p by imports of the kit, each begun on a package that the one before may have left
unfoldable pub AreRepeats : Text → List Piece → Package → List Package → Package → Type 0
AreRepeats name kit p [] q = q ≡ p
AreRepeats name kit p (r ∷ rest) q = OnlyGrows name kit p r × AreRepeats name kit r rest q
