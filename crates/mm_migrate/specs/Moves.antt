-- A statement that takes a transaction from one profile to another.
use Rattle.std.specs.Prelude.{◌⊎◌, Result, OnOk, IfErr, IsTrue}
use Rattle.sqlite.specs.Tree.{Trees}
use Rattle.sqlite.specs.State.{State, HasCleanDisk, Survives}
use Rattle.mm_definitions.specs.Bounds.{Profile, millimetres, micrometres}
use Rattle.mm_definitions.specs.Package.{Package}
use Rattle.mm_definitions.specs.Rules.{Limits}
use Rattle.mm_definitions.specs.declared.answers.Fault.{Fault}
use Rattle.mm_definitions.specs.Scale.{scale}
use Rattle.mm_store.specs.Seen.{IsSeenAs}
use Rattle.mm_store.specs.Stands.{StandsFor, Ground, StandsOn, StandsInside, IsSettled}
use Rattle.mm_definitions.specs.Faults.{IsStoreFault}
use Rattle.mm_store.specs.Statements.{CommitsNothing}

-- a call that makes of a package under one profile a package under another, where it may
pub record IsScaling (from to : Profile) (old new : State) (When : Package → Type 0) (next : Package → Package)
    {T : Type 0} (result : Result T Fault) : Type 0 where
  pub survives : CommitsNothing old new
  pub on : HasCleanDisk new → (ground : Ground) (p : Package) → StandsInside from old ground p → When p
      → StandsOn new ground
  pub made : HasCleanDisk new → (ground : Ground) (p : Package) → StandsInside from old ground p → When p
      → OnOk result (IsTrue new.is_open × StandsInside to new ground (next p))
  pub faults : IfErr result IsStoreFault

-- the connection reads as the package in millimetres, whose numbers are within the limits
abbrev pub MayScale : State → Package → Type 0
MayScale s p = IsSeenAs millimetres s p × Limits millimetres p

-- the database stands for the package in the one unit, or for it in the other
abbrev pub StandsForEither : Trees → Package → Type 0
StandsForEither db p = StandsFor millimetres.version db p ⊎ StandsFor micrometres.version db (scale p)

-- `Ok` leaves the store open, and settles the connection for the package in micrometres. Where it was settled a
-- database that may be left stands for the one or wholly for the other, in each case.
pub record IsRescaled (old new : State) (result : Result (Unit {0}) Fault) : Type 0 where
  pub survives : Survives old new (λ db. (p : Package) → MayScale old p → StandsFor micrometres.version db (scale p))
  pub is_open : HasCleanDisk new → OnOk result (IsTrue new.is_open)
  pub done : HasCleanDisk new → (p : Package) → MayScale old p → OnOk result (IsSettled micrometres new (scale p))
  pub left : HasCleanDisk new → (p : Package) → IsSettled millimetres old p → Limits millimetres p → (db : Trees)
      → new.may_leave db → StandsForEither db p
  pub faults : IfErr result IsStoreFault
