use Rattle.mm_laws.proofs.AnyStamp.{any_stamp}
use Rattle.mm_laws.proofs.refusals.publishing_is_refused_at_every_stamp_alike.Goals as goal

pub returns : goal.returns
returns c = any_stamp
