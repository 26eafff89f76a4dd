use Rattle.std.proofs.Common.{None, refl}
use Rattle.mm_program.specs.Stops.{StopsNew, StopsOn}
use Rattle.mm_program.proofs.Off.{any_new, stops_new, untouched, works_wider}
use Rattle.mm_program.proofs.files.on_new.Goals as goal

pub returns-in-Ok-true-clause-worked : goal.returns-in-Ok-true-clause-worked
returns-in-Ok-true-clause-worked g c =
    works_wider _ _ _ _ _ _ _ (StopsOn None) StopsNew _ _ _ _ stops_new c.on_length.ensures.worked

pub returns-in-Ok-true-clause-bare : goal.returns-in-Ok-true-clause-bare
returns-in-Ok-true-clause-bare g c = c.on_length.ensures.bare refl

pub returns-in-Ok-false-clause-worked : goal.returns-in-Ok-false-clause-worked
returns-in-Ok-false-clause-worked g c = untouched _ _ _ _ _ _ _ StopsNew _ _ _ tt

pub returns-in-Err-clause-worked : goal.returns-in-Err-clause-worked
returns-in-Err-clause-worked g c = untouched _ _ _ _ _ _ _ StopsNew _ _ _ (any_new _ c.in-Err.ensures)
