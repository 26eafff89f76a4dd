use Rattle.std.specs.Prelude.{⊤}
use Rattle.sqlite.specs.Held.{state}
use Rattle.mm_definitions.specs.Units.{profile_of}
use Rattle.mm_column_limits.specs.Longest.{AreFew}
use Rattle.mm_walk.specs.InTurn.{HasPassed}
use Rattle.mm_check.specs.Verdict.{Before}
use Rattle.mm_check.proofs.verdict.verify_known.Given as goal

abbrev pub invariant-rules : goal.invariant-rules
invariant-rules g l =
    HasPassed (profile_of l.fn.unit) (AreFew l.fn.longest) (state g.S.Store l.fn.conn) (state g.S.Store l.conn) ⊤
    (Before (profile_of l.fn.unit) l.k)
