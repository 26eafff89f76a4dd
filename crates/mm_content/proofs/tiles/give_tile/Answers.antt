use Rattle.std.proofs.Common.{refl}
use Rattle.std.proofs.Math.Facts.{to_z-of_z}
use Rattle.mm_content.proofs.Giving.{gives, gives_not, gives_unasked}
use Rattle.mm_content.proofs.tiles.give_tile.Goals as goal

pub returns-in_err-stands : goal.returns-in_err-stands
returns-in_err-stands g c = gives_unasked c.in_err-stands.ensures c.from_residual.ensures.1

pub returns : goal.returns
returns g c =
    gives c.in_ok-stands.ensures _ (λ v says. says.0) (rw (to_z-of_z c.ranges.blob) at c.in_ok-name_tile.ensures)
    c.release_freed.ensures (λ bytes v. refl)

pub returns-in_err-name_tile : goal.returns-in_err-name_tile
returns-in_err-name_tile g c =
    gives_not c.in_ok-stands.ensures _ (λ v says. says.0) (rw (to_z-of_z c.ranges.blob) at c.in_err-name_tile.ensures)
    c.from_residual-in_err-name_tile.ensures.1
