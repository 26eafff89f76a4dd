use Rattle.mm_laws.proofs.Scaled.{scaled}
use Rattle.mm_laws.proofs.scale.the_same_package_in_the_smaller_unit_meets_the_rules.Goals as goal

pub returns : goal.returns
returns c = scaled
