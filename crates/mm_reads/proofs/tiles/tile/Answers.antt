use Rattle.std.proofs.Common.{◌≡◌, rules}
use Rattle.std.specs.FinMap.{get}
use Rattle.sqlite.specs.Held.{state}
use Rattle.mm_definitions.specs.Places.{tile_at}
use Rattle.mm_store.specs.Seen.{IsRead}
use Rattle.mm_store.proofs.Seen.{reads}
use Rattle.mm_reads.specs.Told.{TellsBytes}
use Rattle.mm_reads.proofs.tiles.tile.Goals as goal

pub returns-clause-read : goal.returns-clause-read
returns-clause-read g c profile =
    let end = c.rollback.new.self.0 in
    let same : end ≡ c.conn-1.given.0 = search rules in
    let a = c.args in
    let it : IsRead profile (state g.S.Store a.conn.now) (state g.S.Store end)
    (λ p found. TellsBytes (get p.tiles (tile_at a.table.now a.place)) found) c.bytes_at-found.result =
    reads c.transaction-tx.ensures.begun
    (rw c.as_str.ensures.text at c.bytes_at-found.ensures) c.rollback.ensures.survives c.rollback.ensures.undone
    profile in
    rw same at it
