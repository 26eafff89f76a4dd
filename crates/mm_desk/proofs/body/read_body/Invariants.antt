use Rattle.std.proofs.Common.{◌≡◌, ◌≤◌, ◌-◌, ◌++◌, length, take}
use Rattle.std.specs.Prelude.{ℕ, List}
use Rattle.std.specs.Io.KnownBytes.{Consumes}
use Rattle.mm_definitions.specs.Streams.{has_failed, inside}
use Rattle.mm_desk.proofs.body.read_body.Given as goal

abbrev pub invariant-pieces : goal.invariant-pieces
invariant-pieces g l =
    (length l.body.items ≤ l.length) × (has_failed l.reader ≡ has_failed l.fn.reader) × (read : List ℕ)
    × Consumes (g.R.Read.remaining (inside l.fn.reader)) (g.R.Read.remaining (inside l.reader)) read
    × (l.body.items ≡ take l.length l.here ++ read)

abbrev pub decreases-pieces : goal.decreases-pieces
decreases-pieces g l = l.length - length l.body.items
