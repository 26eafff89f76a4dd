use Rattle.mm_program.proofs.Life.{begins_life}
use Rattle.mm_program.proofs.laws.a_life_begins_with_the_new_package.Goals as goal

pub returns : goal.returns
returns g c image first next path uses none on clean may life =
    begins_life g.D.Disk image path c.args._opened.now none on clean first may uses next life
