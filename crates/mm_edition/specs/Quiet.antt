-- What holds of a call at whatever text it writes as last_change: it commits nothing, and a fault is one of the store.
use Rattle.std.specs.Prelude.{Result, IfErr}
use Rattle.sqlite.specs.State.{State}
use Rattle.mm_definitions.specs.declared.answers.Fault.{Fault}
use Rattle.mm_definitions.specs.Faults.{IsStoreFault}
use Rattle.mm_store.specs.Statements.{CommitsNothing}

-- the call commits nothing, and its faults are 90 and 91
pub record IsQuiet {T : Type 0} (old new : State) (result : Result T Fault) : Type 0 where
  pub survives : CommitsNothing old new
  pub faults : IfErr result IsStoreFault
