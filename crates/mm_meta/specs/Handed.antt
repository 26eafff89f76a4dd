-- What a call makes with the transaction that it is handed: tables, and a package in them. Each leaves it the
-- transaction on the same connection (`same`).
use Rattle.std.specs.Prelude.{◌≡◌, ℤ, Result}
use Rattle.sqlite.specs.Held.{state}
use Rattle.sqlite.specs.Store.{Ghosts}
use Rattle.sqlite.specs.declared.transaction.Transaction.{Transaction}
use Rattle.sqlite.specs.Schema.{Schema}
use Rattle.mm_definitions.specs.Bounds.{Profile}
use Rattle.mm_definitions.specs.Package.{Package}
use Rattle.mm_definitions.specs.declared.answers.Fault.{Fault}
use Rattle.mm_store.specs.Handed.{IsSame}
use Rattle.mm_meta.specs.Opening.{IsCreating, IsMaking, MakesNoneAgain}

module _ {S T : Type 0} (g : Ghosts S) (old new : Transaction S) where
  -- it makes the tables of one schema, each without a row, to those of another
  pub record Creates (from to : Schema) (result : Result T Fault) : Type 0 where
    pub same : IsSame old new
    pub made : IsCreating from (state g old.conn.now) (state g new.conn.now) to result

  -- it makes the tables of a schema, each without a row, to a package
  pub record Makes (from : Schema) (profile : Profile) (p : Package) (result : Result T Fault) : Type 0 where
    pub same : IsSame old new
    pub made : IsMaking from (state g old.conn.now) (state g new.conn.now) profile p result

  -- the same, to a package of the profile of this version
  pub record MakesOfVersion (from : Schema) (version : ℤ) (p : Package) (result : Result T Fault) : Type 0 where
    pub same : IsSame old new
    pub made : (profile : Profile) → profile.version ≡ version
        → IsMaking from (state g old.conn.now) (state g new.conn.now) profile p result

  -- where the tables stand already it makes none
  abbrev pub MakesNone : Result T Fault → Type 0
  MakesNone result = MakesNoneAgain (state g old.conn.now) (state g new.conn.now) result
