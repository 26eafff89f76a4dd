use Rattle.std.proofs.Common.{subst}
use Rattle.std.proofs.Math.Facts.{to_z-of_z}
use Rattle.std.specs.FinMap.{get}
use Rattle.mm_definitions.specs.Keys.{item}
use Rattle.mm_reads.specs.Told.{IsMediumRow}
use Rattle.mm_reads.proofs.Found.{medium_told, no_medium}
use Rattle.mm_blobs.proofs.Viewing.{looks_of, finds_as, finds_then, finds_failed}
use Rattle.mm_reads.proofs.media_items.medium_at.Goals as goal

pub returns-in_ok-medium_in-in-Some : goal.returns-in_ok-medium_in-in-Some
returns-in_ok-medium_in-in-Some g c =
    let key = item c.args.table.now c.args.id in
    looks_of (finds_as (finds_then (rw (to_z-of_z c.ranges.id) at c.in_ok-row.ensures)
    c.in_ok-medium_in-in-Some.ensures)
    (λ v says. medium_told v.kept.shelf (get v.kept.media key) (get v.content.media key) c.in-Some.row
    c.in_ok-medium_in-in-Some.field-0
    (subst (IsMediumRow (get v.kept.media key)) c.in-Some.is says.0.0) says.0.1 says.1))

pub returns-in_err-medium_in-in-Some : goal.returns-in_err-medium_in-in-Some
returns-in_err-medium_in-in-Some g c =
    finds_failed (finds_then c.in_ok-row.ensures c.in_err-medium_in-in-Some.ensures)
    c.from_residual-in_err-medium_in-in-Some.ensures.1

pub returns-in-None : goal.returns-in-None
returns-in-None g c =
    let key = item c.args.table.now c.args.id in
    looks_of (finds_as (rw (to_z-of_z c.ranges.id) at c.in_ok-row.ensures)
    (λ v says. no_medium v.kept.shelf (get v.kept.media key) (get v.content.media key)
    (subst (IsMediumRow (get v.kept.media key)) c.in-None.is says.0) says.1))

pub returns-in_err-row : goal.returns-in_err-row
returns-in_err-row g c = finds_failed c.in_err-row.ensures c.from_residual.ensures.1
