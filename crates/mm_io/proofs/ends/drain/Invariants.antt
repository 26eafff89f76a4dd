use Rattle.std.proofs.Common.{◌≡◌}
use Rattle.mm_definitions.specs.Streams.{has_failed, inside}
use Rattle.mm_io.specs.Records.{ReadAtLeast}
use Rattle.mm_io.proofs.ends.drain.Given as goal

abbrev pub invariant-loop-times : goal.invariant-loop-times
invariant-loop-times g l = record {
  read : ReadAtLeast l.times (g.R.Read.remaining (inside l.fn.reader)) (g.R.Read.remaining (inside l.reader));
  working : has_failed l.reader ≡ has_failed l.fn.reader;
}
