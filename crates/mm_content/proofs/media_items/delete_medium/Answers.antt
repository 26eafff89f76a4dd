use Rattle.std.proofs.Common.{refl}
use Rattle.std.proofs.Math.Facts.{to_z-of_z}
use Rattle.mm_content.proofs.Giving.{removes, removes_not}
use Rattle.mm_blobs.proofs.Viewing.{finds_failed}
use Rattle.mm_content.proofs.media_items.delete_medium.Goals as goal

pub returns-in_err-stands : goal.returns-in_err-stands
returns-in_err-stands g c = finds_failed c.in_err-stands.ensures c.from_residual.ensures.1

pub returns : goal.returns
returns g c =
    removes (rw (to_z-of_z c.ranges.id) at c.in_ok-stands.ensures) _ (λ v says. says)
    (rw (to_z-of_z c.ranges.id) at c.in_ok-delete_medium_row.ensures) c.release_freed.ensures (λ v. refl)

pub returns-in_err-delete_medium_row : goal.returns-in_err-delete_medium_row
returns-in_err-delete_medium_row g c =
    removes_not (rw (to_z-of_z c.ranges.id) at c.in_ok-stands.ensures) _ (λ v says. says)
    (rw (to_z-of_z c.ranges.id) at c.in_err-delete_medium_row.ensures)
    c.from_residual-in_err-delete_medium_row.ensures.1
