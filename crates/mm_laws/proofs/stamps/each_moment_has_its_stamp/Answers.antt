use Rattle.mm_laws.proofs.StampFound.{stamp_is}
use Rattle.mm_laws.proofs.stamps.each_moment_has_its_stamp.Goals as goal

pub returns : goal.returns
returns c = stamp_is
