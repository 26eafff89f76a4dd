use Rattle.std.proofs.Common.{refl}
use Rattle.std.proofs.Math.Facts.{to_z-of_z}
use Rattle.mm_content.proofs.Giving.{gives, gives_not, gives_unasked}
use Rattle.mm_content.proofs.media_items.give_medium.Goals as goal

pub returns-in_err-stands : goal.returns-in_err-stands
returns-in_err-stands g c = gives_unasked c.in_err-stands.ensures c.from_residual.ensures.1

pub returns : goal.returns
returns g c =
    gives (rw (to_z-of_z c.ranges.id) at c.in_ok-stands.ensures) _ (λ v says. says)
    (rw (to_z-of_z c.ranges.id, to_z-of_z c.ranges.blob) at c.in_ok-name_medium.ensures) c.release_freed.ensures
    (λ bytes v. refl)

pub returns-in_err-name_medium : goal.returns-in_err-name_medium
returns-in_err-name_medium g c =
    gives_not (rw (to_z-of_z c.ranges.id) at c.in_ok-stands.ensures) _ (λ v says. says)
    (rw (to_z-of_z c.ranges.id, to_z-of_z c.ranges.blob) at c.in_err-name_medium.ensures)
    c.from_residual-in_err-name_medium.ensures.1
