use Rattle.std.proofs.Common.{[], rules}
use Rattle.mm_store.proofs.Steps.{updates}
use Rattle.mm_migrate.proofs.Statements as statement
use Rattle.mm_migrate.proofs.Made as scaling
use Rattle.mm_migrate.proofs.scaling.scale_matrix_sets.Goals as goal

pub returns : goal.returns
returns g c =
    updates c.run.ensures statement.sets [] (search rules)
    (λ version db p h within. scaling.sets version db p h within)
