use Rattle.mm_base.proofs.RecordFacts.{piece_within}
use Rattle.mm_base.proofs.pieces.read_piece.Goals as goal

pub returns-clause-within : goal.returns-clause-within
returns-clause-within c = piece_within c.piece_of.result _ _ c.piece_of.ensures
