use Rattle.std.proofs.Common.{sym, ap, subst}
use Rattle.std.proofs.Math.Facts.{to_z-of_z}
use Rattle.std.specs.FinMap.{get}
use Rattle.mm_definitions.specs.Keys.{piece}
use Rattle.mm_store.specs.Blobs.{StandsAt}
use Rattle.mm_store.proofs.Asking.{told_fault}
use Rattle.mm_staging.specs.Kept.{kept_row, bytes_or_none, IsPieceRow}
use Rattle.mm_staging.proofs.Rows.{row_tells, no_row_tells, finds_bytes}
use Rattle.mm_blobs.proofs.Viewing.{looks_of, finds_as, finds_failed, finds_denied}
use Rattle.mm_staging.proofs.pieces.kept_piece.Goals as goal

pub returns-in_default : goal.returns-in_default
returns-in_default g c =
    let key = piece c.args.edition.now c.args.number in
    looks_of (finds_as (rw (to_z-of_z c.ranges.number) at c.in_ok-row.ensures)
    (λ v says. no_row_tells v.kept.shelf (get v.kept.pieces key) (get v.content.pieces key)
    (subst (IsPieceRow (get v.kept.pieces key)) c.in_default.is says.0) says.1))

pub returns-in_err-row : goal.returns-in_err-row
returns-in_err-row g c = finds_failed c.in_err-row.ensures c.from_residual.ensures.1

pub returns-in_err-bytes : goal.returns-in_err-bytes
returns-in_err-bytes g c = finds_failed (finds_bytes c.in_ok-row.ensures c.in_err-bytes.ensures)
    c.from_residual-in_err-bytes.ensures.1

pub returns-in-Ok : goal.returns-in-Ok
returns-in-Ok g c =
    let key = piece c.args.edition.now c.args.number in
    looks_of (finds_as (finds_bytes (rw (to_z-of_z c.ranges.number) at c.in_ok-row.ensures) c.in_ok-bytes.ensures)
    (λ v says. row_tells v.kept.shelf (get v.kept.pieces key) (get v.content.pieces key) c.in-Some.row
    (kept_row c.in-Ok.kept)
    (subst (IsPieceRow (get v.kept.pieces key)) c.in-Some.is says.0.0) says.0.1 c.in-Ok.ensures.shown
    (λ blob is. subst (StandsAt v.kept.shelf blob) (ap bytes_or_none (sym c.in-Ok.ensures.bytes)) (says.1 blob is))))

pub returns : goal.returns
returns g c =
    finds_denied (finds_bytes c.in_ok-row.ensures c.in_ok-bytes.ensures)
    (told_fault c.in-Err.error c.fault_of.result c.fault_of.ensures)
