use Rattle.std.proofs.Common.{◌≡◌, ◌≤◌, ◌-◌, length, take}
use Rattle.std.specs.Io.KnownBytes.{Appends}
use Rattle.mm_definitions.specs.Streams.{has_failed, inside}
use Rattle.mm_io.proofs.sending.write_whole.Given as goal

abbrev pub invariant-loop-at : goal.invariant-loop-at
invariant-loop-at g l = record {
  in_range : l.at ≤ length l.bytes;
  written : Appends (g.W.Write.contents (inside l.fn.writer)) (g.W.Write.contents (inside l.writer))
      (take l.at l.bytes);
  working : has_failed l.writer ≡ has_failed l.fn.writer;
}

abbrev pub decreases-loop-at : goal.decreases-loop-at
decreases-loop-at g l = length l.bytes - l.at
