-- What a call promises that only reads of the package of a session.
use Rattle.std.specs.Prelude.{◌≡◌, true, false, Result, Err}
use Rattle.sqlite.specs.Held.{state}
use Rattle.sqlite.specs.State.{State}
use Rattle.sqlite.specs.Store.{Ghosts}
use Rattle.mm_definitions.specs.declared.answers.Fault.{Fault}
use Rattle.mm_definitions.specs.Faults.{reopen}
use Rattle.mm_core.specs.Parts.{connection, must_reopen}
use Rattle.mm_core.specs.declared.session.Session.{Session}

-- A session that has to be opened again answers 92 and is not touched. Another works on, and of its database before and
-- behind the call this holds.
pub record Reads {S A : Type 0} (g : Ghosts S) (old new : Session S g) (result : Result A Fault)
    (Shows : State → State → Type 0) : Type 0 where
  pub ended : must_reopen old ≡ true → (result ≡ Err reopen) × (new ≡ old)
  pub same : must_reopen new ≡ must_reopen old
  pub read : must_reopen old ≡ false → Shows (state g (connection old)) (state g (connection new))
