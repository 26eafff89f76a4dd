use Rattle.std.proofs.Common.{◌≡◌}
use Rattle.sqlite.specs.Held.{state}
use Rattle.mm_definitions.specs.Streams.{inside}
use Rattle.mm_definitions.specs.Streams as streams
use Rattle.mm_core.specs.Parts.{connection, must_reopen}
use Rattle.mm_core.specs.Viewers.{LeavesPackage}
use Rattle.mm_core.specs.Writing.{IsOut}
use Rattle.mm_program.proofs.ServiceFacts.{Told}
use Rattle.mm_program.proofs.connections.serve_on.Given as goal

abbrev pub invariant-loop-served : goal.invariant-loop-served
invariant-loop-served g l = record {
  same : must_reopen l.session ≡ must_reopen l.fn.session;
  kept : LeavesPackage (state g.S.Store (connection l.fn.session)) (state g.S.Store (connection l.session));
  told : Told l.served (g.L.Serves.outcomes l.fn.listener) (g.L.Serves.outcomes l.listener)
      (g.W.Write.contents (inside l.fn.output)) (g.W.Write.contents (inside l.output)) (streams.has_failed l.fn.output)
      (streams.has_failed l.output) l.status;
  out : IsOut l.fn.output → IsOut l.output;
}
