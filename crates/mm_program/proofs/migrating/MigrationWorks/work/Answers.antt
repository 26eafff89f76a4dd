use Rattle.mm_program.proofs.Left.{leaves_migrated, leaves_unmigrated, tells_migrated}
use Rattle.mm_program.proofs.migrating.MigrationWorks.work.Goals as goal

pub returns-in-Ok-clause-found : goal.returns-in-Ok-clause-found
returns-in-Ok-clause-found g c =
    rw c.close.ensures (λ clean. tells_migrated _ _ c.requires.fresh clean tt c.in-Ok.ensures.migrated)

pub returns-in-Ok-clause-worked : goal.returns-in-Ok-clause-worked
returns-in-Ok-clause-worked g c =
    rw c.close.ensures (λ clean. leaves_migrated _ _ c.requires.fresh clean tt c.in-Ok.ensures.migrated)

pub returns-in-Err-clause-worked : goal.returns-in-Err-clause-worked
returns-in-Err-clause-worked g c =
    rw c.from.ensures (λ clean. leaves_unmigrated _ _ c.requires.fresh clean _ c.in-Err.ensures.not_migrated)
