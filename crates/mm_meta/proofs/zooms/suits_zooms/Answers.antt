use Rattle.mm_definitions.specs.Neighbours.{zoomed}
use Rattle.mm_store.proofs.Going.{goes_on, tells, failed}
use Rattle.mm_meta.proofs.zooms.suits_zooms.Goals as goal

pub returns-in_err-below : goal.returns-in_err-below
returns-in_err-below g c =
    failed c.in_err-below.ensures c.from_residual.ensures.1

pub returns : goal.returns
returns g c =
    tells (goes_on c.in_ok-below.ensures c.in_ok-above.ensures)
    (λ profile p says. (zoomed c.in_ok-below.below, zoomed c.in_ok-above.above, says.0, says.1, c.neighbours.ensures))

pub returns-in_err-above : goal.returns-in_err-above
returns-in_err-above g c =
    failed (goes_on c.in_ok-below.ensures c.in_err-above.ensures) c.from_residual-in_err-above.ensures.1
