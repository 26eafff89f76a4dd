use Rattle.std.proofs.Common.{◌≡◌, rules}
use Rattle.std.proofs.Math.Facts.{to_z-of_z}
use Rattle.sqlite.specs.Held.{state}
use Rattle.mm_store.specs.Seen.{IsRead}
use Rattle.mm_store.proofs.Seen.{reads}
use Rattle.mm_reads.specs.Related.{is_item}
use Rattle.mm_reads.proofs.items.stands.Goals as goal

pub returns-clause-read : goal.returns-clause-read
returns-clause-read g c profile =
    let end = c.rollback.new.self.0 in
    let same : end ≡ c.conn-1.given.0 = search rules in
    let a = c.args in
    let it : IsRead profile (state g.S.Store a.conn.now) (state g.S.Store end)
    (λ p found. found ≡ is_item p a.table.now a.id) c.has_item-found.result =
    reads c.transaction-tx.ensures.begun
    (rw (to_z-of_z c.ranges.id) at c.has_item-found.ensures) c.rollback.ensures.survives c.rollback.ensures.undone
    profile in
    rw same at it
