use Rattle.mm_desk.proofs.OneDemand.{demand_one}
use Rattle.mm_desk.proofs.laws.one_demand.Goals as goal

pub returns : goal.returns
returns c port minor front method target fields d e = demand_one fields minor method port front target d e
