use Rattle.mm_laws.proofs.OneStamp.{one_moment, stamped_moment}
use Rattle.mm_laws.proofs.stamps.a_stamp_is_of_one_moment.Goals as goal

pub returns : goal.returns
returns c = record { one = one_moment; within = stamped_moment }
