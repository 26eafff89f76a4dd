-- What a subcommand leaves of a database, and what it tells of the one that it found.
use Rattle.std.specs.Prelude.{◌≡◌, ◌⊎◌, ⊤, ℕ, ℤ, List, false, Option, Some, Result, Ok, Err}
use Rattle.std.specs.Io.KnownBytes.{Appends}
use Rattle.sqlite.specs.Tree.{Trees}
use Rattle.mm_core.specs.Opening.{HasNoTable}
use Rattle.mm_definitions.specs.Bounds.{current, millimetres, micrometres}
use Rattle.mm_definitions.specs.Keys.{Text}
use Rattle.mm_definitions.specs.Opening.{opening}
use Rattle.mm_definitions.specs.Package.{Package}
use Rattle.mm_definitions.specs.Rules.{Meets}
use Rattle.mm_definitions.specs.Scale.{scale}
use Rattle.mm_definitions.specs.Streams.{Written}
use Rattle.mm_definitions.specs.declared.answers.Fault.{Fault}
use Rattle.mm_definitions.specs.declared.answers.KitFault.{KitFault}
use Rattle.mm_definitions.specs.declared.answers.Open.{Open}
use Rattle.mm_definitions.specs.declared.answers.Open.TheVariants as opens
use Rattle.mm_definitions.specs.declared.answers.RunFault.{RunFault}
use Rattle.mm_definitions.specs.declared.answers.Staged.{Staged}
use Rattle.mm_definitions.specs.declared.answers.Tally.{Tally}
use Rattle.mm_store.specs.Stands.{StandsFor}
use Rattle.mm_core.specs.Moves.{StandsForEither}
use Rattle.mm_core.specs.Verdict.{IsFailing}
use Rattle.mm_core.specs.Adopted.{Declines}
use Rattle.mm_core.specs.Applied.{StandsForCurrent}
use Rattle.mm_kit.specs.Folders.{Files}
use Rattle.mm_kit.specs.Imports.{IsImportAnswered, IsImportKept, IsImportStopped}
use Rattle.mm_core.specs.Listing.{listing}
use Rattle.mm_core.specs.Writing.{IsBegun, ListingTellsWriter}
use Rattle.mm_core.specs.Runs.{RanAll, RanSome}
use Rattle.mm_core.specs.Shown.{Shown}
use Rattle.mm_work.specs.Declined.{stop_of}
use Rattle.mm_work.specs.Ran.{IsStatusOf}
use Rattle.mm_work.specs.Shown.{shown_status, shown_text}
use Rattle.mm_work.specs.declared.stop.Stop.{Stop}
use Rattle.mm_work.specs.declared.stop.Stop.TheVariants as stops

-- ---- what changes nothing

-- the database is as it was
abbrev pub LeavesSame : Trees → Trees → Type 0
LeavesSame found after = after ≡ found

-- the package is not adopted for the cause that is told: the rule that fails of it, or a fault
abbrev pub IsDeclinedFor : Package → Stop → Type 0
IsDeclinedFor p why = (cause : Open) × Declines p cause × (why ≡ stop_of cause)

-- why the package of the database, where it stands for one, is not adopted
abbrev pub TellsDeclined : Trees → Stop → Type 0
TellsDeclined found why = (p : Package) → StandsForCurrent found p → IsDeclinedFor p why

-- The database was adopted: it has a table, and a package that it stands for is of this profile and meets the rules.
pub record WasFoundWell (found : Trees) : Type 0 where
  pub some : HasNoTable found → ⊥
  pub profile : (version : ℤ) (p : Package) → StandsFor version found p → version ≡ current.version
  pub meets : (p : Package) → StandsForCurrent found p → Meets current p

-- `check`: all rules hold of the package, or the one that is told does not
abbrev pub TellsChecked : Trees → Result (Unit {0}) Stop → Type 0
TellsChecked found (Ok done) = WasFoundWell found
TellsChecked found (Err why) = TellsDeclined found why

-- the package is declined, and nothing was printed; or it meets the rules, and a fault ended the text behind its
-- beginning: 97 exactly where the writer failed, and else 90 or 91
abbrev pub IsTextEnded : Text → Package → Written → Written → Stop → Type 0
IsTextEnded text p old new why =
    (IsDeclinedFor p why × (new ≡ old))
    ⊎ (Meets current p × IsBegun old.contents new.contents text
    × ((fault : Fault) × ListingTellsWriter old.failed new.failed (Err fault) × (why ≡ stops.Fault fault)))

-- the text that is printed is the one of the package, which meets the rules, and it comes to what goes with that
abbrev pub TellsText : {T : Type 0} → (Package → Text) → (Package → T) → Trees → Written → Written → Result T Stop
    → Type 0
TellsText text came found old new (Ok it) = WasFoundWell found
    × ((p : Package) → StandsForCurrent found p → Appends old.contents new.contents (text p) × (it ≡ came p))
TellsText text came found old new (Err why) =
    (p : Package) → StandsForCurrent found p → IsTextEnded (text p) p old new why

-- `list`: that text is the listing
abbrev pub TellsListing : Trees → Written → Written → Result (Unit {0}) Stop → Type 0
TellsListing = TellsText listing (λ p. tt)

-- `show`: the records of the rows, or the line of why there are none, each with its status
abbrev pub TellsShown : Text → Option ℤ → Trees → Written → Written → Result ℕ Stop → Type 0
TellsShown table id = TellsText (λ p. shown_text p table id) (λ p. shown_status p table id)

-- `serve`: the package meets the rules, or is declined; or the port could not be bound
abbrev pub TellsServed : Trees → Result ℕ Stop → Type 0
TellsServed found (Ok status) = WasFoundWell found
TellsServed found (Err why) =
    (p : Package) → StandsForCurrent found p → IsDeclinedFor p why
    ⊎ (Meets current p × (why ≡ stops.Fault (record { 0 = 96 })))

-- ---- `init`

-- Of a database with no table: the new package stands there; or none does, or it does.
abbrev pub LeavesMade : Trees → Trees → Result (Unit {0}) Stop → Type 0
LeavesMade found after (Ok done) = HasNoTable found → StandsForCurrent after opening
LeavesMade found after (Err why) = HasNoTable found → HasNoTable after ⊎ StandsForCurrent after opening

-- ---- `run`

-- what is shown by one database that a crash, or none, has left
abbrev pub shown_in : Trees → Shown Trees
shown_in after =
    record {
      failed = false;
      settled = λ p. StandsForCurrent after p;
      may_leave = λ db. db ≡ after;
      stands_for = StandsForCurrent;
    }

-- It stands for the package of a first part of the accepted commands, with every one that was acknowledged; of all
-- where no fault ended the run.
abbrev pub RanTo : Package → ℕ → List ℕ → Trees → Written → Written → ℕ → Type 0
RanTo p moment bytes after old new status =
    ((t : Tally) × RanAll p moment bytes (shown_in after) old new t × IsStatusOf t.refused status)
    ⊎ ((e : RunFault) × RanSome p moment bytes (λ q. StandsForCurrent after q) ⊤ (shown_in after) old new e
    × (status ≡ 3))

-- it stands for a package that meets the rules
abbrev pub StandsKept : Trees → Type 0
StandsKept after = (q : Package) × StandsForCurrent after q × Meets current q

-- of each package of the rules that the database stood for, and by the bytes of the input, where it tells them; nothing
-- where none was adopted
abbrev pub LeavesRun : Option (List ℕ) → ℕ → Trees → Trees → Written → Written → Result ℕ Stop → Type 0
LeavesRun source moment found after old new (Ok status) =
    (p : Package) → StandsForCurrent found p → Meets current p
    → StandsKept after × ((bytes : List ℕ) → source ≡ Some bytes → RanTo p moment bytes after old new status)
LeavesRun source moment found after old new (Err why) = after ≡ found

-- what was found, or why nothing was run
abbrev pub TellsRun : Trees → Result ℕ Stop → Type 0
TellsRun found (Ok status) = WasFoundWell found
TellsRun found (Err why) = TellsDeclined found why

-- ---- `kit`

-- what an import is to a folder that tells its files
abbrev pub IsImportOf : Files → Text → Package → Trees → Result Staged KitFault → Type 0
IsImportOf files name p after (Ok answer) = IsImportAnswered files name p (λ q. StandsForCurrent after q) answer
IsImportOf files name p after (Err stopped) =
    IsImportStopped files name p (λ db. db ≡ after) StandsForCurrent stopped.staged

-- Nothing but the pieces of the edition differs, and those that stood stand; of a folder that tells its files they have
-- grown along its kit.
pub record HasImported (told : Option Files) (name : Text) (p : Package) (after : Trees)
    (import : Result Staged KitFault) : Type 0 where
  pub kept : IsImportKept name p (λ q. StandsForCurrent after q) (λ db. db ≡ after) StandsForCurrent import
  pub imported : (files : Files) → told ≡ Some files → IsImportOf files name p after import

-- of each package of the rules that the database stood for; nothing where none was adopted
abbrev pub LeavesImport : Option Files → Text → Trees → Trees → Result (Result Staged KitFault) Stop → Type 0
LeavesImport told name found after (Ok import) =
    (p : Package) → StandsForCurrent found p → Meets current p → HasImported told name p after import
LeavesImport told name found after (Err why) = after ≡ found

-- what was found, or why nothing was imported
abbrev pub TellsImport : Trees → Result (Result Staged KitFault) Stop → Type 0
TellsImport found (Ok import) = WasFoundWell found
TellsImport found (Err why) = TellsDeclined found why

-- ---- `migrate`

-- the database has a table, and a package that it stands for is of the one profile or of the other
abbrev pub TellsMigrated : Trees → Result (Unit {0}) Stop → Type 0
TellsMigrated found (Ok done) =
    (HasNoTable found → ⊥)
    × ((version : ℤ) (p : Package) → StandsFor version found p → (version ≡ micrometres.version)
    ⊎ (version ≡ millimetres.version))
TellsMigrated found (Err why) = ⊤

-- a package in micrometres is as it was, and breaks the rule that is told, or there was a fault
abbrev pub StaysFor : Package → Trees → Open → Type 0
StaysFor p after (opens.Rule rule) = StandsFor micrometres.version after p × IsFailing micrometres p rule
StaysFor p after (opens.Fault fault) = StandsFor micrometres.version after p
StaysFor p after _ = ⊥

-- one in millimetres is as it was, and breaks the rule that is told; or there was a fault, and it stands wholly in the
-- one unit or in the other
abbrev pub StaysIn : Package → Trees → Open → Type 0
StaysIn p after (opens.Rule rule) = StandsFor millimetres.version after p × IsFailing millimetres p rule
StaysIn p after (opens.Fault fault) = StandsForEither after p
StaysIn p after _ = ⊥

-- of a package in micrometres, which is checked
abbrev pub LeavesFine : Package → Trees → Result (Unit {0}) Stop → Type 0
LeavesFine p after (Ok done) = StandsFor micrometres.version after p × Meets micrometres p
LeavesFine p after (Err why) = (cause : Open) × StaysFor p after cause × (why ≡ stop_of cause)

-- of a package in millimetres, which is told in micrometres
abbrev pub LeavesScaled : Package → Trees → Result (Unit {0}) Stop → Type 0
LeavesScaled p after (Ok done) = StandsFor micrometres.version after (scale p) × Meets micrometres (scale p)
LeavesScaled p after (Err why) = (cause : Open) × StaysIn p after cause × (why ≡ stop_of cause)

-- of each package that the database stood for
abbrev pub LeavesMigrated : Trees → Trees → Result (Unit {0}) Stop → Type 0
LeavesMigrated found after done =
    ((p : Package) → StandsFor micrometres.version found p → LeavesFine p after done)
    × ((p : Package) → StandsFor millimetres.version found p → LeavesScaled p after done)
