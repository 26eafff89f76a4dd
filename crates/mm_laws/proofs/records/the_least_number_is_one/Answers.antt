use Rattle.mm_definitions.specs.Records.{HoldsAgainst, HoldsAgainstPiece}
use Rattle.mm_laws.proofs.Spelled.{one_least}
use Rattle.mm_laws.proofs.records.the_least_number_is_one.Goals as goal

pub returns : goal.returns
returns c = record {
  commands = λ profile texts n m. one_least (HoldsAgainst profile texts) n m;
  pieces = λ profile texts n m. one_least (HoldsAgainstPiece profile texts) n m;
}
