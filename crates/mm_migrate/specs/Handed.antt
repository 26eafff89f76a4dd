-- What a call makes of a package with the transaction that it is handed, under another profile. Each leaves it the
-- transaction on the same connection (`same`).
use Rattle.std.specs.Prelude.{⊤, Result}
use Rattle.sqlite.specs.Held.{state}
use Rattle.sqlite.specs.Store.{Ghosts}
use Rattle.sqlite.specs.declared.transaction.Transaction.{Transaction}
use Rattle.mm_definitions.specs.Bounds.{Profile}
use Rattle.mm_definitions.specs.Package.{Package}
use Rattle.mm_definitions.specs.declared.answers.Fault.{Fault}
use Rattle.mm_store.specs.Handed.{IsSame}
use Rattle.mm_migrate.specs.Moves.{IsScaling}

module _ {S T : Type 0} (g : Ghosts S) (old new : Transaction S) where
  -- it makes of a package under one profile a package under another, where it may
  pub record Scales (from to : Profile) (When : Package → Type 0) (next : Package → Package)
      (result : Result T Fault) : Type 0 where
    pub same : IsSame old new
    pub moved : IsScaling from to (state g old.conn.now) (state g new.conn.now) When next result

  -- it leaves the package as it is, under another profile, whichever it was under
  pub record Renumbers (to : Profile) (result : Result T Fault) : Type 0 where
    pub same : IsSame old new
    pub moved : (from : Profile) → IsScaling from to (state g old.conn.now) (state g new.conn.now) (λ p. ⊤) (λ p. p)
        result
