use Rattle.std.proofs.Common.{◌≡◌, map, take}
use Rattle.serde_json.specs.View.{view}
use Rattle.mm_desk.specs.Lists.{numbered_data}
use Rattle.mm_reads.specs.RowLists.{numbered_told}
use Rattle.mm_desk.proofs.lists.rows_json.Given as goal

abbrev pub invariant-loop-entry : goal.invariant-loop-entry
invariant-loop-entry l = map view l.values.items ≡ map numbered_data (map numbered_told (take l.entry-index l.rows))
