-- What a contract sees of a session, and how one begins.
use Rattle.std.specs.Prelude.{◌⊎◌, IsTrue}
use Rattle.sqlite.specs.Tree.{Trees}
use Rattle.sqlite.specs.State.{State, HasCleanDisk, Survives}
use Rattle.mm_definitions.specs.Bounds.{current}
use Rattle.mm_definitions.specs.Opening.{opening}
use Rattle.mm_store.specs.Stands.{StandsFor, IsSettled}
use Rattle.mm_store.specs.Statements.{CommitsNothing}
use Rattle.mm_meta.specs.Opening.{IsBlank, HasNoTable, HasTables}

-- a making commits no more than the new package
abbrev pub MayMake : State → Trees → Type 0
MayMake old db = IsBlank old → StandsFor current.version db opening

-- The store is open, and settled for a new package where no database that might be left had a table. Where the tables
-- of a package stood already nothing was committed.
pub record IsCreated (old new : State) : Type 0 where
  pub survives : Survives old new (MayMake old)
  pub is_open : HasCleanDisk new → IsTrue new.is_open
  pub settled : HasCleanDisk new → IsBlank old → IsSettled current new opening
  pub stays : HasTables old → CommitsNothing old new

-- Each database that may be left has no table, or stands for a new package. Where the tables of a package stood already
-- nothing was committed.
pub record IsNotCreated (old new : State) : Type 0 where
  pub survives : Survives old new (MayMake old)
  pub left : HasCleanDisk new → IsBlank old → (db : Trees) → new.may_leave db → HasNoTable db
      ⊎ StandsFor current.version db opening
  pub stays : HasTables old → CommitsNothing old new
