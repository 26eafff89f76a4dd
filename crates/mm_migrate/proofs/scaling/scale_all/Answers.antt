use Rattle.mm_migrate.proofs.Moves.{scales_then, scales_not}
use Rattle.mm_migrate.proofs.scaling.scale_all.Goals as goal

pub returns-in_err-scale_tables : goal.returns-in_err-scale_tables
returns-in_err-scale_tables g c = scales_not c.in_err-scale_tables.ensures c.from_residual.ensures.1

pub returns : goal.returns
returns g c = scales_then c.in_ok-scale_tables.ensures c.set_version.ensures
