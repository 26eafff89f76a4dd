use Rattle.std.proofs.Common.{◌≡◌, map, take}
use Rattle.serde_json.specs.View.{view}
use Rattle.mm_page.specs.Lists.{mate_data}
use Rattle.mm_reads.specs.Related.{mate_told}
use Rattle.mm_page.proofs.lists.mates_json.Given as goal

abbrev pub invariant-loop-mate : goal.invariant-loop-mate
invariant-loop-mate l = map view l.values.items ≡ map mate_data (map mate_told (take l.mate-index l.mates))
