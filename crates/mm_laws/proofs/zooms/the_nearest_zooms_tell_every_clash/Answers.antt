use Rattle.mm_laws.proofs.Clashes.{clash_by_nearest}
use Rattle.mm_laws.proofs.zooms.the_nearest_zooms_tell_every_clash.Goals as goal

pub returns : goal.returns
returns c = clash_by_nearest
