use Rattle.mm_work.specs.declared.stop.Stop.TheVariants as stops
use Rattle.mm_program.proofs.Left.{leaves_made, leaves_unmade}
use Rattle.mm_program.proofs.subcommands.MakingWorks.work.Goals as goal

pub returns-in-Ok-clause-worked : goal.returns-in-Ok-clause-worked
returns-in-Ok-clause-worked g c =
    rw c.close.ensures (λ clean. leaves_made _ _ c.requires.fresh clean tt c.in-Ok.ensures.created)

pub returns-in-Err-clause-worked : goal.returns-in-Err-clause-worked
returns-in-Err-clause-worked g c clean = leaves_unmade _ _ c.requires.fresh clean (stops.Fault c.in-Err.fault) c.in-Err.ensures.not_created
