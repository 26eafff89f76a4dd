use Rattle.mm_definitions.specs.Units.{profile_of}
use Rattle.mm_column_limits.proofs.Columns.{IsLeft}
use Rattle.mm_column_limits.proofs.row_limits.are_met.Given as goal

abbrev pub invariant-columns : goal.invariant-columns
invariant-columns l = IsLeft (profile_of l.fn.unit) l.limits l.row l.at
