use Rattle.mm_program.proofs.Life.{checked}
use Rattle.mm_program.proofs.laws.what_lives_on_is_told_ok.Goals as goal

pub returns : goal.returns
returns g c image path p uses done lives on clean =
    checked g.D.Disk image path c.args._opened.now p uses done lives on clean
