use Rattle.mm_store.specs.Kept.{no_spare}
use Rattle.mm_store.specs.Removals.{FreedByEdition}
use Rattle.mm_blobs.specs.Views.{spare_each}
use Rattle.mm_blobs.proofs.Viewing.{finds_failed, frees, releases, cleared, clears_failed}
use Rattle.mm_staging.proofs.Freeing.{listed_too}
use Rattle.mm_staging.proofs.editions.delete_edition.Goals as goal

pub returns-in_err-blobs : goal.returns-in_err-blobs
returns-in_err-blobs g c = finds_failed c.in_err-blobs.ensures c.from_residual.ensures.1

pub returns : goal.returns
returns g c =
    let blobs = c.in_ok-blobs.blobs.items in
    cleared
    (releases no_spare
    (frees c.in_ok-blobs.ensures c.in_ok-delete_edition_rows.ensures (spare_each blobs no_spare)
    (λ v says. listed_too (FreedByEdition c.args.edition.now v.kept) blobs says))
    c.as_slice.ensures.value c.release_each.ensures)

pub returns-in_err-delete_edition_rows : goal.returns-in_err-delete_edition_rows
returns-in_err-delete_edition_rows g c =
    let blobs = c.in_ok-blobs.blobs.items in
    clears_failed
    (frees c.in_ok-blobs.ensures c.in_err-delete_edition_rows.ensures (spare_each blobs no_spare)
    (λ v says. listed_too (FreedByEdition c.args.edition.now v.kept) blobs says))
    c.from_residual-in_err-delete_edition_rows.ensures.1
