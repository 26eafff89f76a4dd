use Rattle.std.proofs.Common.{subst}
use Rattle.std.proofs.Math.Facts.{to_z-of_z}
use Rattle.std.specs.FinMap.{get}
use Rattle.mm_definitions.specs.Keys.{piece}
use Rattle.mm_store.proofs.Asking.{told_fault}
use Rattle.mm_staging.specs.Kept.{kept_row, IsPieceRow}
use Rattle.mm_staging.proofs.Rows.{row_keeps, no_row_tells}
use Rattle.mm_blobs.proofs.Viewing.{finds_as}
use Rattle.mm_layout.proofs.Leaving.{finds_failing, finds_untold}
use Rattle.mm_staging.proofs.pieces.kept_but_bytes.Goals as goal

pub returns-in_default : goal.returns-in_default
returns-in_default g c =
    let key = piece c.args.edition.now c.args.number in
    finds_as (rw (to_z-of_z c.ranges.number) at c.in_ok-row.ensures)
    (λ v says. no_row_tells v.kept.shelf (get v.kept.pieces key) (get v.content.pieces key)
    (subst (IsPieceRow (get v.kept.pieces key)) c.in_default.is says.0) says.1)

pub returns-in_err-row : goal.returns-in_err-row
returns-in_err-row g c = finds_failing c.in_err-row.ensures c.from_residual.ensures.1

pub returns-in-Ok : goal.returns-in-Ok
returns-in-Ok g c =
    let key = piece c.args.edition.now c.args.number in
    finds_as (rw (to_z-of_z c.ranges.number) at c.in_ok-row.ensures)
    (λ v says. row_keeps v.kept.shelf (get v.kept.pieces key) (get v.content.pieces key) c.in-Some.row
    (kept_row c.in-Ok.kept) c.in-Ok.kept.blob
    (subst (IsPieceRow (get v.kept.pieces key)) c.in-Some.is says.0) says.1 c.in-Ok.ensures.shown c.in-Ok.ensures.blob)

pub returns : goal.returns
returns g c = finds_untold c.in_ok-row.ensures (told_fault c.in-Err.error c.fault_of.result c.fault_of.ensures)
