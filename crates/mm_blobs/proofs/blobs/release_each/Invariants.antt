use Rattle.std.proofs.Common.{◌≡◌, drop, Ok, IsTrue}
use Rattle.sqlite.specs.Held.{state}
use Rattle.mm_definitions.specs.Bounds.{Profile}
use Rattle.mm_store.specs.Kept.{Spare}
use Rattle.mm_blobs.specs.Views.{spare_each, IsSeen}
use Rattle.mm_blobs.specs.Moves.{IsMove}
use Rattle.mm_blobs.proofs.blobs.release_each.Given as goal

abbrev pub invariant-loop-row : goal.invariant-loop-row
invariant-loop-row g l = record {
  same : l.tx.conn.ghost_name ≡ l.fn.tx.conn.ghost_name;
  goes : (profile : Profile) (spare : Spare)
      → IsMove {T = Unit {0}} (state g.S.Store l.fn.tx.conn.now) (state g.S.Store l.tx.conn.now)
      (λ base x. IsTrue (state g.S.Store l.fn.tx.conn.now).is_open × IsSeen (spare_each l.fn.rows spare) profile
      (state g.S.Store l.fn.tx.conn.now) base x)
      (λ base x _ y. (y ≡ record x { kept = record (x.kept) { shelf = y.kept.shelf } })
      × IsSeen (spare_each (drop l.row-index l.fn.rows) spare) profile (state g.S.Store l.tx.conn.now) base y) (Ok tt);
}
