-- What is printed of a package that was migrated, and the exit status that goes with it.
use Rattle.std.specs.Prelude.{ℕ, List, Result, Ok, Err, codes}
use Rattle.mm_work.specs.Told.{stop_text, stop_status}
use Rattle.mm_work.specs.declared.stop.Stop.{Stop}

-- the line of a migration, or of why it was not done
abbrev pub migrate_text : Result (Unit {0}) Stop → List ℕ
migrate_text (Ok done) = codes "migrate ok\n"
migrate_text (Err why) = stop_text why

-- the exit status that goes with it: 0 where the package is one of profile 2 now
abbrev pub migrate_status : Result (Unit {0}) Stop → ℕ
migrate_status (Ok done) = 0
migrate_status (Err why) = stop_status why
