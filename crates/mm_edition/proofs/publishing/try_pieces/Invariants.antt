use Rattle.mm_edition.proofs.Trials.{HasDone}
use Rattle.mm_edition.proofs.publishing.try_pieces.Given as goal

abbrev pub invariant-loop-number : goal.invariant-loop-number
invariant-loop-number g l = record {
  done : HasDone g.S.Store l.fn.tx l.tx l.fn.edition l.fn.last_change l.number;
}
