use Rattle.mm_desk.proofs.Sitting.{one_run}
use Rattle.mm_desk.proofs.laws.a_desk_is_one_run.Goals as goal

pub returns : goal.returns
returns g c p visits sat clean sound works = one_run g.A.Apply g.met.A.Apply.settled_is visits p c.args._old.now
    c.args._new.now sat clean sound works
