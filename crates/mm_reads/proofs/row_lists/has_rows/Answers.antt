use Rattle.std.proofs.Common.{◌≡◌, rules}
use Rattle.sqlite.specs.Held.{state}
use Rattle.mm_store.specs.Seen.{IsRead}
use Rattle.mm_store.proofs.Seen.{reads}
use Rattle.mm_reads.specs.RowLists.{lists_rows}
use Rattle.mm_reads.proofs.row_lists.has_rows.Goals as goal

pub returns-clause-read : goal.returns-clause-read
returns-clause-read g c profile =
    let end = c.rollback.new.self.0 in
    let a = c.args in
    let it : IsRead profile (state g.S.Store a.conn.now) (state g.S.Store end)
    (λ p found. found ≡ lists_rows p a.table.now) c.lists-found.result =
    reads c.transaction-tx.ensures.begun c.lists-found.ensures c.rollback.ensures.survives c.rollback.ensures.undone
    profile in
    let same : end ≡ c.conn-1.given.0 = search rules in
    rw same at it
