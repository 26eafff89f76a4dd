-- What is printed of a package that was checked, and the exit status that goes with it.
use Rattle.std.specs.Prelude.{ℕ, List, Result, Ok, Err, codes}
use Rattle.mm_work.specs.Told.{stop_text, stop_status}
use Rattle.mm_work.specs.declared.stop.Stop.{Stop}

-- the line of a check: all sixteen rules hold, or what stopped it, such as the rule that fails
abbrev pub check_text : Result (Unit {0}) Stop → List ℕ
check_text (Ok done) = codes "package ok\n"
check_text (Err why) = stop_text why

-- the exit status that goes with it: 0 where they hold
abbrev pub check_status : Result (Unit {0}) Stop → ℕ
check_status (Ok done) = 0
check_status (Err why) = stop_status why
