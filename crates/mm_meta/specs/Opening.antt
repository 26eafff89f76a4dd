-- How a database becomes a package.
use Rattle.std.specs.Prelude.{◌≡◌, ◌⊎◌, false, Result, OnOk, IfErr, IsTrue}
use Rattle.std.specs.FinMap.{empty}
use Rattle.sqlite.specs.Schema.{Schema}
use Rattle.sqlite.specs.Tree.{Trees}
use Rattle.sqlite.specs.State.{State, HasCleanDisk, Survives}
use Rattle.sql_forms.specs.Listing.{IsSound}
use Rattle.sql_forms.specs.Tables.{IsBare}
use Rattle.mm_store.specs.Tables.{schema}
use Rattle.mm_store.specs.Made.{no_schema}
use Rattle.mm_definitions.specs.Bounds.{Profile}
use Rattle.mm_definitions.specs.Opening.{opening}
use Rattle.mm_definitions.specs.Package.{Package}
use Rattle.mm_definitions.specs.declared.answers.Fault.{Fault}
use Rattle.mm_definitions.specs.Faults.{IsStoreFault}
use Rattle.mm_store.specs.Stands.{StandsFor, Ground, StandsOn, StandsInside, IsSettled}
use Rattle.mm_store.specs.Statements.{CommitsNothing}

-- the package with no entry, which meets no rules
abbrev pub nothing : Package
nothing = record {
  systems = empty;
  contents = empty;
  kinds = empty;
  sets = empty;
  matrices = empty;
  extensions = empty;
  tiles = empty;
  rows = empty;
  media = empty;
  relations = empty;
  pairings = empty;
  editions = empty;
  pieces = empty;
}

-- with the given systems
abbrev pub given_systems : Package
given_systems = record nothing { systems = opening.systems }

-- the connection sees the tables of a package, of whatever profile and with whatever rows
abbrev pub HasTables : State → Type 0
HasTables s = IsTrue s.is_open → s.now.schema ≡ schema

-- ---- inside the transaction

-- a transaction is open on the ground, and sees the tables of this schema, each without a row
pub record IsBareAt (at : Schema) (s : State) (ground : Ground) : Type 0 where
  pub mode : IsTrue s.in_transaction
  pub back : StandsOn s ground
  pub bare : IsTrue s.is_open → IsBare at s.now

module _ {T : Type 0} (from : Schema) (old new : State) where
  -- what a call makes of the tables of one schema, each without a row, to those of another
  pub record IsCreating (to : Schema) (result : Result T Fault) : Type 0 where
    pub survives : CommitsNothing old new
    pub made : HasCleanDisk new → (ground : Ground) → IsBareAt from old ground
        → OnOk result (IsTrue new.is_open × IsBareAt to new ground)
    pub faults : IfErr result IsStoreFault

  -- what a call makes of them to a package
  pub record IsMaking (profile : Profile) (p : Package) (result : Result T Fault) : Type 0 where
    pub survives : CommitsNothing old new
    pub made : HasCleanDisk new → (ground : Ground) → IsBareAt from old ground
        → OnOk result (IsTrue new.is_open × StandsInside profile new ground p)
    pub faults : IfErr result IsStoreFault

-- where the tables stand already it fails
abbrev pub MakesNoneAgain : State → State → {T : Type 0} → Result T Fault → Type 0
MakesNoneAgain old new result = HasCleanDisk new → IsTrue old.in_transaction → HasTables old → OnOk result ⊥

-- ---- the whole

-- the trees list no table
abbrev pub HasNoTable : Trees → Type 0
HasNoTable db = ∥ IsSound no_schema db ∥₁

-- no transaction is open, the connection sees no table, and no database that may be left has one
pub record IsBlank (s : State) : Type 0 where
  pub mode : s.in_transaction ≡ false
  pub schema_is : IsTrue s.is_open → s.now.schema ≡ no_schema
  pub left : (db : Trees) → s.may_leave db → HasNoTable db

-- `Ok` only where the store is open, the database then stands for the opening package, and nothing else may be left. In
-- each case, after a crash or a fault too, each database that may be left was there before or stands for it; so it has
-- no table or stands for it. Where the tables of a package stand already nothing is committed.
pub record IsInit (profile : Profile) (old new : State) (result : Result (Unit {0}) Fault) : Type 0 where
  pub survives : Survives old new (λ db. IsBlank old → StandsFor profile.version db opening)
  pub is_open : HasCleanDisk new → OnOk result (IsTrue new.is_open)
  pub made : HasCleanDisk new → IsBlank old → OnOk result (IsSettled profile new opening)
  pub left : HasCleanDisk new → IsBlank old → (db : Trees) → new.may_leave db → HasNoTable db
      ⊎ StandsFor profile.version db opening
  pub stays : HasTables old → CommitsNothing old new
  pub faults : IfErr result IsStoreFault
