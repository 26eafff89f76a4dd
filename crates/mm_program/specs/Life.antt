-- The life of a file: one run of the program behind another, and a crash, or none, between them.
use Rattle.std.specs.Prelude.{◌≡◌, ⊤, ℕ, List, [], ◌∷◌, Option, Some, Result, Ok, Err}
use Rattle.std.proofs.Common.{inl, inr}
use Rattle.sqlite.specs.Tree.{Trees}
use Rattle.sqlite.specs.Recovery.{Image}
use Rattle.sqlite.specs.Files.{HoldsDatabase}
use Rattle.mm_definitions.specs.Bounds.{current}
use Rattle.mm_definitions.specs.Keys.{Text}
use Rattle.mm_definitions.specs.Package.{Package}
use Rattle.mm_definitions.specs.Rules.{Meets}
use Rattle.mm_definitions.specs.Runs.{Call, IsFirstPart}
use Rattle.mm_definitions.specs.Streams.{Written}
use Rattle.mm_definitions.specs.declared.answers.KitFault.{KitFault}
use Rattle.mm_definitions.specs.declared.answers.Staged.{Staged}
use Rattle.mm_definitions.specs.declared.answers.Staged.TheVariants.{Complete, Refused}
use Rattle.mm_kit.specs.Folders.{Files}
use Rattle.mm_kit.specs.Imports.{HasWhole, KeepsOthers}
use Rattle.mm_kit.specs.Lists.{IsKitList}
use Rattle.mm_kit.specs.declared.entries.KitEntry.{KitEntry}
use Rattle.mm_core.specs.Applied.{StandsForCurrent}
use Rattle.mm_core.specs.Answers.{calls_of}
use Rattle.mm_core.specs.Runs.{acknowledged_of}
use Rattle.mm_work.specs.declared.stop.Stop.{Stop}
use Rattle.mm_desk.specs.Sittings.{IsSitting, Visit}
use Rattle.mm_program.specs.Desks.{LeavesDesk}
use Rattle.mm_program.specs.Left.{LeavesImport, LeavesMigrated, LeavesRun, LeavesSame, RanTo}

-- of each database that files held, what was left of them holds such a one
abbrev pub Leads : (Trees → Trees → Type 0) → Image → Image → Type 0
Leads leaves image left =
    (db : Trees) → HoldsDatabase image db → ∥ ((after : Trees) × leaves db after × HoldsDatabase left after) ∥₁

-- a run of a list: the bytes of its input, its moment, what was printed before and behind it, and what it came to
pub record Ran : Type 0 where
  pub bytes : List ℕ
  pub moment : ℕ
  pub old : Written
  pub new : Written
  pub done : Result ℕ Stop

-- an import of a kit: what its folder tells of its files, the name of the edition, and what it came to
pub record Imported : Type 0 where
  pub told : Option Files
  pub name : Text
  pub done : Result (Result Staged KitFault) Stop

-- What was done: a subcommand that changes nothing, a run, a desk and what it came to, an import of a kit, or a
-- migration and what it came to.
pub data Deed : Type 0 where
  Looks : Deed
  Runs : Ran → Deed
  Attends : Result ℕ Stop → Deed
  Imports : Imported → Deed
  Migrates : Result (Unit {0}) Stop → Deed

-- one use of the program, and what was then left of the files
pub record Use : Type 0 where
  pub did : Deed
  pub left : Image

-- what a use leaves of a database
abbrev pub LeavesBy : Deed → Trees → Trees → Type 0
LeavesBy Looks found after = LeavesSame found after
LeavesBy (Runs r) found after = LeavesRun (Some r.bytes) r.moment found after r.old r.new r.done
LeavesBy (Attends done) found after = LeavesDesk found after done
LeavesBy (Imports i) found after = LeavesImport i.told i.name found after i.done
LeavesBy (Migrates done) found after = LeavesMigrated found after done

-- Files that held this were used; the system opened the next use on what was left of them then, and so to the last.
unfoldable pub IsLife : Image → List Use → Image → Type 0
IsLife image [] left = left ≡ image
IsLife image (used ∷ uses) left = Leads (LeavesBy used.did) image used.left × IsLife used.left uses left

-- the package after a first part of the accepted commands of those that were read, with every one that was acknowledged
abbrev pub IsPartOf : (p : Package) (moment : ℕ) (bytes : List ℕ) (after : Trees) (old new : Written) (status : ℕ)
    (q : Package) → RanTo p moment bytes after old new status → Type 0
IsPartOf p moment bytes after old new status q (inl (t, all, is)) =
    IsFirstPart p (calls_of moment all.readings) t.accepted q
IsPartOf p moment bytes after old new status q (inr (e, some, is)) =
    IsFirstPart p (calls_of moment some.readings) (acknowledged_of p moment some.readings e.tally) q

-- the run read, printed and counted so, and the package after it is that of such a part
pub record IsRunPart (r : Ran) (status : ℕ) (p q : Package) : Type 0 where
  pub after : Trees
  pub ran : RanTo p r.moment r.bytes after r.old r.new status
  pub part : IsPartOf p r.moment r.bytes after r.old r.new status q ran

-- what a run makes of a package, by what it came to
abbrev pub MakesBy : Ran → Result ℕ Stop → Package → Package → Type 0
MakesBy r (Ok status) p q = IsRunPart r status p q
MakesBy r (Err why) p q = q ≡ p

-- What a desk makes of it: the package after a first part of the accepted commands of all its lists, one behind
-- another, with every one that was acknowledged; or it had none.
abbrev pub MakesAttended : Result ℕ Stop → Package → Package → Type 0
MakesAttended (Ok status) p q =
    (visits : List Visit) × (calls : List Call) × (kept : ℕ) × IsSitting p visits calls kept
    × IsFirstPart p calls kept q
MakesAttended (Err why) p q = q ≡ p

-- what an import tells of the package behind it, of a folder that tells its files: where it is complete, the folder's
-- list is a kit's, and the edition has the kit's pieces, so many, and no others
abbrev pub HoldsKit : Files → Text → Package → Result Staged KitFault → Type 0
HoldsKit files name q (Ok (Complete n)) =
    (entries : List KitEntry) × IsKitList files (Ok entries) × HasWhole files name entries q n
HoldsKit files name q (Ok (Refused place number)) = ⊤
HoldsKit files name q (Err stopped) = ⊤

-- what an import makes of it: nothing but the pieces of its edition differs, and those that stood stand, and they are
-- the kit's where it is told complete; or nothing was imported
abbrev pub MakesImport : Option Files → Text → Result (Result Staged KitFault) Stop → Package → Package → Type 0
MakesImport told name (Ok import) p q =
    KeepsOthers name p q × ((files : Files) → told ≡ Some files → HoldsKit files name q import)
MakesImport told name (Err why) p q = q ≡ p

-- what a use makes of it; a migration finds it in micrometres
abbrev pub DeedMakes : Deed → Package → Package → Type 0
DeedMakes Looks p q = q ≡ p
DeedMakes (Runs r) p q = MakesBy r r.done p q
DeedMakes (Attends done) p q = MakesAttended done p q
DeedMakes (Imports i) p q = MakesImport i.told i.name i.done p q
DeedMakes (Migrates done) p q = q ≡ p

-- Each use makes a package of the one that the use before made, and each of them meets the rules.
unfoldable pub AreMade : Package → List Use → Package → Type 0
AreMade p [] q = q ≡ p
AreMade p (used ∷ uses) q =
    (between : Package) × DeedMakes used.did p between × Meets current between × AreMade between uses q

-- what is left holds a package that these uses have made of another one, and it meets the rules
pub record LivesOn (left : Image) (p : Package) (uses : List Use) : Type 0 where
  pub database : Trees
  pub kept : Package
  pub holds : HoldsDatabase left database
  pub stands : StandsForCurrent database kept
  pub meets : Meets current kept
  pub made : AreMade p uses kept
