use Rattle.std.proofs.Common.{◌≡◌, Some, map, take}
use Rattle.csv.specs.Writing.{text_written}
use Rattle.mm_reads.specs.RowLists.{numbered_told}
use Rattle.mm_show.specs.Records.{IsAtStart, row_records}
use Rattle.mm_show.proofs.records.records_text.Given as goal

abbrev pub invariant-loop-row : goal.invariant-loop-row
invariant-loop-row l = record {
  start : IsAtStart l.records;
  text : text_written (λ v. Some v.items) l.records
      ≡ Some (row_records l.table (map numbered_told (take l.row-index l.rows)));
}
