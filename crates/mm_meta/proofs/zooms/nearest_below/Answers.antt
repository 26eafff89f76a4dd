use Rattle.std.proofs.Common.{pos, rules}
use Rattle.sqlite.specs.Held.{state}
use Rattle.sql_forms.proofs.Orders.{selects_first}
use Rattle.mm_store.proofs.Selecting as statement
use Rattle.mm_store.proofs.Steps.{looks, seen}
use Rattle.mm_meta.proofs.Nearest.{at_zoom, below_found}
use Rattle.mm_meta.proofs.zooms.nearest_below.Goals as goal

pub returns : goal.returns
returns g c =
    let old = state g.S.Store c.args.tx.now.conn.now in
    let new = state g.S.Store c.first_zoomed.new.tx.conn.now in
    let a = c.args in
    looks c.first_zoomed.ensures
    (λ x first ready shown gives.
    let read = selects_first _ _ _ _ _ _ _ _ old new ready.schema_is (at_zoom a.table.now (pos a.zoom)) _ (search rules)
    statement.matrix_below first shown in (
      read.0,
      λ version p h. below_found (seen old 6) p.matrices h.matrices a.table.now (pos a.zoom) x first gives
          read.1,
    ))
