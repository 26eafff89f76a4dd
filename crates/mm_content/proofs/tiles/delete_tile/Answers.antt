use Rattle.std.proofs.Common.{refl}
use Rattle.mm_content.proofs.Giving.{removes, removes_not}
use Rattle.mm_blobs.proofs.Viewing.{finds_failed}
use Rattle.mm_content.proofs.tiles.delete_tile.Goals as goal

pub returns-in_err-stands : goal.returns-in_err-stands
returns-in_err-stands g c = finds_failed c.in_err-stands.ensures c.from_residual.ensures.1

pub returns : goal.returns
returns g c =
    removes c.in_ok-stands.ensures _ (λ v says. says.0) c.in_ok-delete_tile_row.ensures c.release_freed.ensures
    (λ v. refl)

pub returns-in_err-delete_tile_row : goal.returns-in_err-delete_tile_row
returns-in_err-delete_tile_row g c =
    removes_not c.in_ok-stands.ensures _ (λ v says. says.0) c.in_err-delete_tile_row.ensures
    c.from_residual-in_err-delete_tile_row.ensures.1
