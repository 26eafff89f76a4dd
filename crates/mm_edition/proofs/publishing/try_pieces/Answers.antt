use Rattle.mm_edition.proofs.Trials.{begins, goes_on_after, trial_ended, trial_refused, trial_gave_up, trial_endless}
use Rattle.mm_edition.proofs.publishing.try_pieces.Goals as goal

pub loop-number-init : goal.loop-number-init
loop-number-init g c = record { done = begins }

pub loop-number-preserved : goal.loop-number-preserved
loop-number-preserved g c = record
    { done = goes_on_after c.loop-number.invariant.done c.in_ok-try_piece.ensures c.in-Done.is }

pub returns-in-End : goal.returns-in-End
returns-in-End g c = trial_ended c.loop-number.invariant.done c.in_ok-try_piece.ensures c.in-End.is

pub returns-in_err-try_piece : goal.returns-in_err-try_piece
returns-in_err-try_piece g c = trial_gave_up c.loop-number.invariant.done c.in_err-try_piece.ensures
    c.from_residual.ensures.1

pub returns-in-Refused : goal.returns-in-Refused
returns-in-Refused g c = trial_refused c.loop-number.invariant.done c.in_ok-try_piece.ensures c.in-Refused.is

pub returns : goal.returns
returns g c = trial_endless c.loop-number.invariant.done
