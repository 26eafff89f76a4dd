use Rattle.std.proofs.Common.{◌≡◌}
use Rattle.sqlite.specs.Values.{bound}
use Rattle.mm_walk.proofs.Walking.{SoFar}
use Rattle.mm_walk.proofs.walk.walk.Given as goal

abbrev pub invariant-rows : goal.invariant-rows
invariant-rows g l =
    (l.rows.conn.ghost_name ≡ l.initial.rows.conn.ghost_name)
    × SoFar g.S.Store g.V.Visitor.takes l.fn.sql (bound l.fn.params) l.fn.conn l.rows.conn.now l.fn.visitor l.visitor
