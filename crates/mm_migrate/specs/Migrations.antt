-- What becomes of a connection whose package is to be told in micrometres.
use Rattle.std.specs.Prelude.{◌≡◌, ◌≢◌, ◌⊎◌, ⊤, ℤ, Result, Ok, Err, OnOk, IsTrue}
use Rattle.sqlite.specs.Tree.{Trees}
use Rattle.sqlite.specs.State.{State, HasCleanDisk, Survives}
use Rattle.mm_definitions.specs.Bounds.{millimetres, micrometres}
use Rattle.mm_definitions.specs.Package.{Package}
use Rattle.mm_definitions.specs.Rules.{Meets}
use Rattle.mm_definitions.specs.declared.answers.Open.{Open}
use Rattle.mm_definitions.specs.declared.answers.Open.TheVariants as opens
use Rattle.mm_definitions.specs.Scale.{scale}
use Rattle.mm_store.specs.Seen.{IsSeenAs}
use Rattle.mm_store.specs.Stands.{StandsFor, ReadsAs, IsSettled}
use Rattle.mm_store.specs.Statements.{CommitsNothing}
use Rattle.mm_meta.specs.Look.{AnswersLook, ShowsProfile}
use Rattle.mm_meta.specs.Opening.{IsBlank}
use Rattle.mm_check.specs.Verdict.{IsFailing}
use Rattle.mm_check.specs.Form.{TellsForm}
use Rattle.mm_check.specs.Checked.{NoNumber, OnlyStoreFaults}
use Rattle.mm_migrate.specs.Moves.{MayScale, StandsForEither}

-- ---- of a package that is in micrometres already, as of one that is adopted
-- it is settled and meets the rules, or the first rule that fails is told; after a fault each database that may be left
-- stands for it
abbrev pub Adopts : Package → State → Result (Unit {0}) Open → Type 0
Adopts p new (Ok _) = IsSettled micrometres new p × Meets micrometres p
Adopts p new (Err (opens.Rule rule)) = IsSettled micrometres new p × IsFailing micrometres p rule
Adopts p new (Err (opens.Fault fault)) = (db : Trees) → new.may_leave db → StandsFor micrometres.version db p
Adopts p new (Err _) = ⊥

-- ---- of a package in millimetres: it is told in micrometres; or it is as it was, and breaks this rule; or there was a
-- fault, and each database that may be left stands for it as it was or wholly for it in micrometres
abbrev pub Migrates : Package → State → Result (Unit {0}) Open → Type 0
Migrates p new (Ok _) = IsSettled micrometres new (scale p) × Meets micrometres (scale p)
Migrates p new (Err (opens.Rule rule)) = IsSettled millimetres new p × IsFailing millimetres p rule
Migrates p new (Err (opens.Fault fault)) = (db : Trees) → new.may_leave db → StandsForEither db p
Migrates p new (Err _) = ⊥

-- ---- the same of a package that the connection reads as, whatever a crash would leave
abbrev pub AdoptsSeen : Package → State → Result (Unit {0}) Open → Type 0
AdoptsSeen p new (Ok _) = IsSeenAs micrometres new p × Meets micrometres p
AdoptsSeen p new (Err (opens.Rule rule)) = IsSeenAs micrometres new p × IsFailing micrometres p rule
AdoptsSeen p new (Err (opens.Fault fault)) = ⊤
AdoptsSeen p new (Err _) = ⊥

abbrev pub MigratesSeen : Package → State → Result (Unit {0}) Open → Type 0
MigratesSeen p new (Ok _) = IsSettled micrometres new (scale p) × Meets micrometres (scale p)
MigratesSeen p new (Err (opens.Rule rule)) = IsSeenAs millimetres new p × IsFailing millimetres p rule
MigratesSeen p new (Err (opens.Fault fault)) = ⊤
MigratesSeen p new (Err _) = ⊥

-- the profile's table shows the row of the one version or of the other
abbrev pub ShowsEither : State → Type 0
ShowsEither s = ShowsProfile micrometres.version s ⊎ ShowsProfile millimetres.version s

-- 93, 94 and 95 are as the look at the profile's row gives it, and another version than these two; all else but a fault
-- is told of a database of these two alone
abbrev pub TellsNumber : State → State → Result (Unit {0}) Open → Type 0
TellsNumber old new (Err (opens.Version version)) = AnswersLook old new (Err (opens.Version version))
    × (version ≢ millimetres.version)
TellsNumber old new (Err opens.NoProfile) = AnswersLook old new (Err opens.NoProfile)
TellsNumber old new (Err opens.BadProfile) = AnswersLook old new (Err opens.BadProfile)
TellsNumber old new (Err (opens.Fault fault)) = ⊤
TellsNumber old new _ = ShowsEither old

-- a package of any other version is not read
abbrev pub IsOfEither : State → Type 0
IsOfEither s = (version : ℤ) (p : Package) → (IsTrue s.is_open → ReadsAs version s.now p)
    → (version ≡ micrometres.version) ⊎ (version ≡ millimetres.version)

-- what may be committed: of a database whose profile's table shows that of millimetres, the package in micrometres; of
-- others nothing
abbrev pub MayCommitScaled : State → Trees → Type 0
MayCommitScaled old db = ShowsProfile millimetres.version old
    × ((p : Package) → MayScale old p → StandsFor micrometres.version db (scale p))

-- an opening number or a rule
abbrev pub IsOpeningRefusal : Result (Unit {0}) Open → Type 0
IsOpeningRefusal (Ok _) = ⊥
IsOpeningRefusal (Err (opens.Fault fault)) = ⊥
IsOpeningRefusal (Err _) = ⊤

-- `Ok` leaves the store open. What may be left, and what is told, is as the profile of the package has it.
pub record IsMigration (old new : State) (result : Result (Unit {0}) Open) : Type 0 where
  pub survives : Survives old new (MayCommitScaled old)
  pub is_open : HasCleanDisk new → OnOk result (IsTrue new.is_open)
  pub refused : IsOpeningRefusal result → CommitsNothing old new
  pub adopts : HasCleanDisk new → (p : Package) → IsSettled micrometres old p → Adopts p new result
  pub migrates : HasCleanDisk new → (p : Package) → IsSettled millimetres old p → Migrates p new result
  pub adopts_seen : HasCleanDisk new → (p : Package) → IsSeenAs micrometres old p → AdoptsSeen p new result
  pub migrates_seen : HasCleanDisk new → (p : Package) → IsSeenAs millimetres old p → MigratesSeen p new result
  pub tells : HasCleanDisk new → TellsNumber old new result
  pub some : HasCleanDisk new → OnOk result (IsBlank old → ⊥)
  pub profile : HasCleanDisk new → OnOk result (IsOfEither old)
  pub blobs : HasCleanDisk new → TellsForm old result
  pub faults : HasCleanDisk new → OnlyStoreFaults result

-- the same of a database that is known to be of the older profile
pub record IsOlder (old new : State) (result : Result (Unit {0}) Open) : Type 0 where
  pub survives : Survives old new (λ db. (p : Package) → MayScale old p → StandsFor micrometres.version db (scale p))
  pub is_open : HasCleanDisk new → OnOk result (IsTrue new.is_open)
  pub refused : IsOpeningRefusal result → CommitsNothing old new
  pub migrates : HasCleanDisk new → (p : Package) → IsSettled millimetres old p → Migrates p new result
  pub migrates_seen : HasCleanDisk new → (p : Package) → IsSeenAs millimetres old p → MigratesSeen p new result
  pub blobs : HasCleanDisk new → TellsForm old result
  pub no_number : NoNumber result
  pub faults : OnlyStoreFaults result
