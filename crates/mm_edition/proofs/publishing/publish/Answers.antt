use Rattle.mm_edition.proofs.Tries.{closed_already, looked_in_vain, piece_refused, pieces_in_vain, edited, closes}
use Rattle.mm_edition.proofs.Tries.{closes_not}
use Rattle.mm_edition.proofs.publishing.publish.Goals as goal

pub returns-in-Some : goal.returns-in-Some
returns-in-Some g c = rw c.refused.ensures
    (closed_already (rw c.as_str-name.ensures.text at c.in_ok-number.ensures) c.in-Some.is)

pub returns-in_err-number : goal.returns-in_err-number
returns-in_err-number g c = looked_in_vain (rw c.as_str-name.ensures.text at c.in_err-number.ensures)
    c.from_residual.ensures.1

pub returns-in-Some-2 : goal.returns-in-Some-2
returns-in-Some-2 g c =
    rw c.of_piece.ensures (piece_refused (rw c.as_str-name.ensures.text at c.in_ok-number.ensures) c.in_default.is
    c.in_ok-try_pieces.ensures c.in-Some-2.is)

pub returns-in_err-try_pieces : goal.returns-in_err-try_pieces
returns-in_err-try_pieces g c =
    pieces_in_vain (rw c.as_str-name.ensures.text at c.in_ok-number.ensures) c.in_default.is c.in_err-try_pieces.ensures
    c.from_residual-in_err-try_pieces.ensures.1

pub returns : goal.returns
returns g c =
    closes (edited (rw c.as_str-name.ensures.text at c.in_ok-number.ensures) c.in_default.is c.in_ok-try_pieces.ensures
    c.in-None.is)
    (rw c.as_str-name.ensures.text at c.in_ok-close_edition.ensures)

pub returns-in_err-close_edition : goal.returns-in_err-close_edition
returns-in_err-close_edition g c =
    closes_not (edited (rw c.as_str-name.ensures.text at c.in_ok-number.ensures) c.in_default.is
    c.in_ok-try_pieces.ensures c.in-None.is)
    (rw c.as_str-name.ensures.text at c.in_err-close_edition.ensures) c.from_residual-in_err-close_edition.ensures.1
