use Rattle.mm_store.specs.Kept.{no_spare}
use Rattle.mm_blobs.specs.Views.{spare_each}
use Rattle.mm_blobs.proofs.Viewing.{finds_failed, finds_then, frees, releases, cleared, clears_failed}
use Rattle.mm_layout.proofs.Freeing.{covers}
use Rattle.mm_layout.proofs.tables.delete_table.Goals as goal

pub returns-in_err-tiles : goal.returns-in_err-tiles
returns-in_err-tiles g c = finds_failed c.in_err-tiles.ensures c.from_residual.ensures.1

pub returns-in_err-media : goal.returns-in_err-media
returns-in_err-media g c = finds_failed (finds_then c.in_ok-tiles.ensures c.in_err-media.ensures)
    c.from_residual-in_err-media.ensures.1

pub returns-in_err-delete_contents : goal.returns-in_err-delete_contents
returns-in_err-delete_contents g c =
    let tiles = c.in_ok-tiles.tiles.items in
    let media = c.in_ok-media.media.items in
    clears_failed
    (frees (finds_then c.in_ok-tiles.ensures c.in_ok-media.ensures) c.in_err-delete_contents.ensures
    (spare_each tiles (spare_each media no_spare))
    (λ v says. covers c.args.table.now v.kept tiles media says.0 says.1))
    c.from_residual-in_err-delete_contents.ensures.1

pub returns : goal.returns
returns g c =
    let tiles = c.in_ok-tiles.tiles.items in
    let media = c.in_ok-media.media.items in
    let gone = frees (finds_then c.in_ok-tiles.ensures c.in_ok-media.ensures) c.in_ok-delete_contents.ensures
    (spare_each tiles (spare_each media no_spare))
    (λ v says. covers c.args.table.now v.kept tiles media says.0 says.1) in
    cleared
    (releases no_spare (releases (spare_each media no_spare) gone c.as_slice.ensures.value c.in_ok-release_each.ensures)
    c.as_slice-2.ensures.value c.release_each-2.ensures)

pub returns-in_err-release_each : goal.returns-in_err-release_each
returns-in_err-release_each g c =
    let tiles = c.in_ok-tiles.tiles.items in
    let media = c.in_ok-media.media.items in
    let gone = frees (finds_then c.in_ok-tiles.ensures c.in_ok-media.ensures) c.in_ok-delete_contents.ensures
    (spare_each tiles (spare_each media no_spare))
    (λ v says. covers c.args.table.now v.kept tiles media says.0 says.1) in
    clears_failed (releases (spare_each media no_spare) gone c.as_slice.ensures.value c.in_err-release_each.ensures)
    c.from_residual-in_err-release_each.ensures.1
