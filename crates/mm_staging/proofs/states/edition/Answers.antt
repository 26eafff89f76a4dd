use Rattle.std.proofs.Common.{◌≡◌, rules}
use Rattle.sqlite.specs.Held.{state}
use Rattle.mm_store.specs.Seen.{IsRead}
use Rattle.mm_store.proofs.Seen.{reads_by_rules}
use Rattle.mm_definitions.specs.Standing.{TellsState}
use Rattle.mm_staging.proofs.states.edition.Goals as goal

pub returns-clause-read : goal.returns-clause-read
returns-clause-read g c profile =
    let end = c.rollback.new.self.0 in
    let same : end ≡ c.conn-1.given.0 = search rules in
    let a = c.args in
    let it : IsRead profile (state g.S.Store a.conn.now) (state g.S.Store end)
    (λ p found. TellsState p a.edition.now found) c.state_of-found.result =
    reads_by_rules c.transaction-tx.ensures.begun
    (rw c.as_str.ensures.text at c.state_of-found.ensures) c.rollback.ensures.survives c.rollback.ensures.undone
    profile in
    rw same at it
