use Rattle.std.proofs.Common.{◌≡◌, subst, rules, w64, to_z, of_z, to_z-of_z}
use Rattle.std.specs.FinMap.{get}
use Rattle.mm_definitions.specs.Places.{tile_at}
use Rattle.mm_store.specs.Blobs.{Told}
use Rattle.mm_store.specs.Kept.{tile_id, tile_with}
use Rattle.mm_reads.proofs.Found.{tile_told}
use Rattle.mm_blobs.proofs.Viewing.{looks_of, finds_as, finds_then, finds_failed}
use Rattle.mm_reads.proofs.tiles.bytes_at.Goals as goal

pub returns-in_ok-bytes_of-in-Some : goal.returns-in_ok-bytes_of-in-Some
returns-in_ok-bytes_of-in-Some g c =
    let key = tile_at c.args.table.now c.args.place in
    let blob = c.in-Some.blob in
    let bytes = c.in_ok-bytes_of-in-Some.field-0 in
    let back : to_z w64 (of_z w64 blob) ≡ blob = search (rules, to_z-of_z) in
    looks_of (finds_as (finds_then c.in_ok-blob.ensures (rw back at c.in_ok-bytes_of-in-Some.ensures))
    (λ v says. tile_told v.kept.shelf blob (get v.content.tiles key) bytes.items
    (subst (λ i. Told tile_id tile_with v.kept.shelf i (get v.content.tiles key)) c.in-Some.is says.0.1) says.1))

pub returns-in_err-bytes_of-in-Some : goal.returns-in_err-bytes_of-in-Some
returns-in_err-bytes_of-in-Some g c =
    finds_failed (finds_then c.in_ok-blob.ensures c.in_err-bytes_of-in-Some.ensures)
    c.from_residual-in_err-bytes_of-in-Some.ensures.1

pub returns-in-None : goal.returns-in-None
returns-in-None g c =
    let key = tile_at c.args.table.now c.args.place in
    looks_of (finds_as c.in_ok-blob.ensures
    (λ v says. subst (λ i. Told tile_id tile_with v.kept.shelf i (get v.content.tiles key)) c.in-None.is says.1))

pub returns-in_err-blob : goal.returns-in_err-blob
returns-in_err-blob g c = finds_failed c.in_err-blob.ensures c.from_residual.ensures.1
