-- Whether a database holds a package of this profile.
use Rattle.std.specs.Prelude.{◌≡◌, ◌≢◌, ◌⊎◌, ⊤, ℤ, pos, Bool, true, false, List, [], ◌∷◌, Result, Ok, Err, IsTrue}
use Rattle.sqlite.specs.declared.error.Error.{Error}
use Rattle.sqlite.specs.declared.error.Error.TheVariants.{SqliteFailure}
use Rattle.sqlite.specs.declared.error.ErrorCode.TheVariants.{OutOfMemory, SystemIoFailure, DatabaseCorrupt, DiskFull}
use Rattle.sqlite.specs.declared.error.ErrorCode.TheVariants.{Closed, OperationInterrupted}
use Rattle.sqlite.specs.declared.types.Value.TheVariants.{Int}
use Rattle.sqlite.specs.Order.{Row, column}
use Rattle.sqlite.specs.State.{State, HasCleanDisk, IsUnchanged, IsRolledBack, FailsToQuery, Shown}
use Rattle.mm_definitions.specs.Bounds.{current}
use Rattle.mm_definitions.specs.Package.{Package}
use Rattle.mm_definitions.specs.declared.answers.Open.{Open}
use Rattle.mm_definitions.specs.declared.answers.Open.TheVariants as opens
use Rattle.mm_store.specs.Compiled.{profile_rows}
use Rattle.mm_definitions.specs.Faults.{memory}
use Rattle.mm_store.specs.Faults.{told_as}
use Rattle.mm_store.specs.Stands.{ReadsAs}
use Rattle.mm_store.specs.Statements.{CommitsNothing}
use Rattle.mm_meta.specs.Opening.{IsBlank}

-- memory, the disk or a limit on steps stopped the query
abbrev pub stops : Error → Bool
stops (SqliteFailure OutOfMemory) = true
stops (SqliteFailure SystemIoFailure) = true
stops (SqliteFailure DatabaseCorrupt) = true
stops (SqliteFailure DiskFull) = true
stops (SqliteFailure Closed) = true
stops (SqliteFailure OperationInterrupted) = true
stops _ = false

-- the rows are one, and it is (1, version)
abbrev pub IsProfile : ℤ → List Row → Type 0
IsProfile version rows = (row : Row) × (rows ≡ row ∷ []) × (column row 0 ≡ Int (pos 1)) × (column row 1 ≡ Int version)

-- asked for its rows, the profile's table shows one alone: (1, version)
abbrev pub ShowsProfile : ℤ → State → Type 0
ShowsProfile version s = (rows : List Row) × Shown profile_rows [] s s rows × IsProfile version rows

-- how the rows of the profile's table are judged
abbrev pub Judges : List Row → Result (Unit {0}) Open → Type 0
Judges rows (Ok _) = IsProfile current.version rows
Judges rows (Err (opens.Version version)) = IsProfile version rows × (version ≢ current.version)
Judges rows (Err opens.BadProfile) = (version : ℤ) → IsProfile version rows → ⊥
Judges rows (Err (opens.Fault fault)) = fault ≡ memory
Judges rows (Err opens.NoProfile) = ⊥
Judges rows (Err opens.BadBlobs) = ⊥
Judges rows (Err (opens.Rule rule)) = ⊥

-- how an error of the query is told
abbrev pub TellsError : Error → Result (Unit {0}) Open → Type 0
TellsError e (Err opens.NoProfile) = stops e ≡ false
TellsError e (Err (opens.Fault fault)) = (stops e ≡ true) × (fault ≡ told_as e)
TellsError e _ = ⊥

-- The answer judges the rows that the query shows, and leaves all as it was, or tells the error with which it fails.
abbrev pub AnswersLook : State → State → Result (Unit {0}) Open → Type 0
AnswersLook old new result =
    ((rows : List Row) × Shown profile_rows [] old new rows × IsUnchanged old new × Judges rows result)
    ⊎ ((e : Error) × FailsToQuery profile_rows [] old new e × TellsError e result)

-- what is answered of a database that stands for a package under a version, unless a fault is
abbrev pub Agrees : ℤ → Result (Unit {0}) Open → Type 0
Agrees version (Ok _) = version ≡ current.version
Agrees version (Err (opens.Version other)) = (other ≡ version) × (version ≢ current.version)
Agrees version (Err (opens.Fault fault)) = ⊤
Agrees version (Err opens.NoProfile) = ⊥
Agrees version (Err opens.BadProfile) = ⊥
Agrees version (Err opens.BadBlobs) = ⊥
Agrees version (Err (opens.Rule rule)) = ⊥

-- of a database that has no table it is told that it has no profile, and all is as it was; or there was a fault
abbrev pub FindsNone : State → State → Result (Unit {0}) Open → Type 0
FindsNone old new (Err opens.NoProfile) = IsUnchanged old new
FindsNone old new (Err (opens.Fault fault)) = ⊤
FindsNone old new _ = ⊥

-- It commits nothing, and all is as it was, or the store failed and undid the transaction. It answers as the profile's
-- row tells.
pub record IsLooked (old new : State) (result : Result (Unit {0}) Open) : Type 0 where
  pub survives : CommitsNothing old new
  pub rests : HasCleanDisk new → IsUnchanged old new ⊎ IsRolledBack old new
  pub answers : HasCleanDisk new → AnswersLook old new result
  pub agrees : HasCleanDisk new → (version : ℤ) (p : Package) → (IsTrue old.is_open → ReadsAs version old.now p)
      → Agrees version result
  pub none : HasCleanDisk new → IsBlank old → FindsNone old new result
