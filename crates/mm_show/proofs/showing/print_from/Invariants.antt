use Rattle.std.proofs.Common.{◌≡◌, ℤ, true, map}
use Rattle.mm_definitions.specs.Package.{Package}
use Rattle.mm_definitions.specs.Streams.{has_failed, inside}
use Rattle.mm_reads.specs.RowLists.{first_rows, lists_rows, numbered_told}
use Rattle.mm_reads.specs.Viewers.{IsOn, LeavesPackage}
use Rattle.mm_reads.specs.Writing.{IsOut}
use Rattle.mm_show.proofs.Turning.{Printed}
use Rattle.mm_show.proofs.showing.print_from.Given as goal

abbrev pub invariant-loop-turn : goal.invariant-loop-turn
invariant-loop-turn g l = record {
  same : g.V.Viewer.has_failed l.viewer ≡ g.V.Viewer.has_failed l.fn.viewer;
  kept : LeavesPackage (g.V.Viewer.store l.fn.viewer) (g.V.Viewer.store l.viewer);
  printed : (p : Package) → IsOn (g.V.Viewer.has_failed l.fn.viewer) (g.V.Viewer.store l.fn.viewer)
      (g.V.Viewer.store l.viewer) p → lists_rows p l.table ≡ true
      → (first : ℤ) → map numbered_told l.fn.first_of_all.items ≡ first_rows p l.table first
      → Printed p l.table first (g.W.Write.contents (inside l.fn.output)) (g.W.Write.contents (inside l.output))
      (map numbered_told l.rows.items);
  working : has_failed l.output ≡ has_failed l.fn.output;
  out : IsOut l.fn.output → IsOut l.output;
}
