use Rattle.std.specs.Prelude.{◌<◌}
use Rattle.sqlite.specs.Held.{state}
use Rattle.mm_definitions.specs.Units.{profile_of}
use Rattle.mm_walk.specs.InTurn.{HoldsBelow, HasPassed}
use Rattle.mm_column_limits.specs.LimitParts.{part}
use Rattle.mm_column_limits.specs.Longest.{AreFew}
use Rattle.mm_column_limits.proofs.parts.limits.Given as goal

abbrev pub invariant-parts : goal.invariant-parts
invariant-parts g l =
    HasPassed (profile_of l.fn.unit) (AreFew l.fn.longest) (state g.S.Store l.fn.conn) (state g.S.Store l.conn)
    (1 < l.k) (HoldsBelow (part (profile_of l.fn.unit)) l.k)
