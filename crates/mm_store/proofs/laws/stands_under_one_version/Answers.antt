use Rattle.mm_store.proofs.Single.{one_version}
use Rattle.mm_store.proofs.laws.stands_under_one_version.Goals as goal

pub returns : goal.returns
returns c = λ v w db p q one two. one_version v w db p q one two
