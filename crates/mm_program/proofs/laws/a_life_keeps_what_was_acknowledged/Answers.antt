use Rattle.mm_program.proofs.Life.{lives_on}
use Rattle.mm_program.proofs.laws.a_life_keeps_what_was_acknowledged.Goals as goal

pub returns : goal.returns
returns c image next uses life db p = lives_on uses image next life db p
