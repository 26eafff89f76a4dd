use Rattle.std.proofs.Common.{◌≡◌, ◌≤◌, ◌+◌, ℕ, List, length, Some}
use Rattle.csv.specs.Reading.{source_of}
use Rattle.csv.specs.declared.parser.State.TheVariants as states
use Rattle.mm_io.specs.Records.{IsSetUp}
use Rattle.mm_kit.specs.Lists.{AreSoFar}
use Rattle.mm_kit.proofs.lists.read_rows.Given as goal

abbrev pub invariant-loop-place : goal.invariant-loop-place
invariant-loop-place g l = record {
  set_up : IsSetUp l.rows;
  few : l.place ≤ 4097;
  count : length l.entries.items + 1 ≡ l.place;
  so_far : (bytes : List ℕ) → source_of g.T.Read.remaining l.fn.rows ≡ Some bytes → l.fn.rows.state ≡ states.StartRecord
      → AreSoFar bytes (source_of g.T.Read.remaining l.rows) l.rows.state l.entries.items l.place;
}
