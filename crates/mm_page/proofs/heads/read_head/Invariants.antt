use Rattle.std.proofs.Common.{◌≡◌, ◌≤◌, ◌-◌, length, take}
use Rattle.std.specs.Io.KnownBytes.{Consumes}
use Rattle.mm_definitions.specs.Streams.{has_failed, inside}
use Rattle.mm_page.specs.Heads.{IsNeeded}
use Rattle.mm_page.proofs.heads.read_head.Given as goal

abbrev pub invariant-pieces : goal.invariant-pieces
invariant-pieces g l = record {
  in_range : l.len ≤ length l.buf;
  needed : IsNeeded (length l.buf) (take l.len l.buf);
  read : Consumes (g.R.Read.remaining (inside l.fn.reader)) (g.R.Read.remaining (inside l.reader)) (take l.len l.buf);
  working : has_failed l.reader ≡ has_failed l.fn.reader;
}

abbrev pub decreases-pieces : goal.decreases-pieces
decreases-pieces g l = length l.buf - l.len
