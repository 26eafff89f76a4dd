use Rattle.mm_laws.proofs.OneStamp.{one_stamp, stamp_only}
use Rattle.mm_laws.proofs.stamps.a_moment_has_one_stamp.Goals as goal

pub returns : goal.returns
returns c = record { one = one_stamp; named = stamp_only }
