use Rattle.std.proofs.Common.{◌≡◌, map, take}
use Rattle.serde_json.specs.View.{view}
use Rattle.mm_page.specs.Lists.{table_data}
use Rattle.mm_reads.specs.Contents.{table_told}
use Rattle.mm_page.proofs.lists.tables_json.Given as goal

abbrev pub invariant-loop-entry : goal.invariant-loop-entry
invariant-loop-entry l = map view l.values.items ≡ map table_data (map table_told (take l.entry-index l.tables))
