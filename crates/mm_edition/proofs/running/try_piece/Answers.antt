use Rattle.std.proofs.Common.{ap, sym, ◌∙◌}
use Rattle.mm_edition.proofs.Turning.{as_turn, turn_ends, turn_looked_in_vain, turn_taken, turn_gave_up}
use Rattle.mm_edition.specs.declared.running.Turn.TheVariants.{Refused}
use Rattle.mm_edition.proofs.running.try_piece.Goals as goal

pub returns-in_default : goal.returns-in_default
returns-in_default g c = turn_ends c.in_ok-outline.ensures c.in_default.is

pub returns-in_err-outline : goal.returns-in_err-outline
returns-in_err-outline g c = turn_looked_in_vain c.in_err-outline.ensures c.from_residual.ensures.1

pub returns-in-Done : goal.returns-in-Done
returns-in-Done g c = turn_taken c.in_ok-outline.ensures c.in-Some.is c.in_ok-run_piece.ensures
    (sym (ap as_turn c.in-Done.is))

pub returns : goal.returns
returns g c = turn_taken c.in_ok-outline.ensures c.in-Some.is c.in_ok-run_piece.ensures
    (ap Refused c.reason.ensures ∙ sym (ap as_turn c.in-Refused.is))

pub returns-in_err-run_piece : goal.returns-in_err-run_piece
returns-in_err-run_piece g c = turn_gave_up c.in_ok-outline.ensures c.in-Some.is c.in_err-run_piece.ensures
    c.from_residual-in_err-run_piece.ensures.1
