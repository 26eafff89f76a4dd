-- A connection on which a package was to be made.
use Rattle.std.proofs.Common.{Ok, Err}
use Rattle.sqlite.specs.State.{State}
use Rattle.mm_definitions.specs.Bounds.{current}
use Rattle.mm_definitions.specs.declared.answers.Fault.{Fault}
use Rattle.mm_meta.specs.Opening.{IsInit}
use Rattle.mm_core.specs.Sessions.{IsCreated, IsNotCreated}

module _ (old new : State) where
  pub created_by : IsInit current old new (Ok tt) → IsCreated old new
  created_by it = record { survives = it.survives; is_open = it.is_open; settled = it.made; stays = it.stays }

  pub not_created_by : (fault : Fault) → IsInit current old new (Err fault) → IsNotCreated old new
  not_created_by fault it = record { survives = it.survives; left = it.left; stays = it.stays }
