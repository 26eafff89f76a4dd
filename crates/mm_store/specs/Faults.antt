-- How an error of the store is told.
use Rattle.std.specs.Prelude.{Bool, true, false, if◌then◌else◌}
use Rattle.sqlite.specs.declared.error.Error.{Error}
use Rattle.sqlite.specs.declared.error.Error.TheVariants.{SqliteFailure}
use Rattle.sqlite.specs.declared.error.ErrorCode.TheVariants.{OutOfMemory}
use Rattle.mm_definitions.specs.Faults.{memory, store}
use Rattle.mm_definitions.specs.declared.answers.Fault.{Fault}

-- the error tells that memory was refused
abbrev pub wants_memory : Error → Bool
wants_memory (SqliteFailure OutOfMemory) = true
wants_memory _ = false

-- how an error of the store is told: want of memory, or any other failure
abbrev pub told_as : Error → Fault
told_as e = if wants_memory e then memory else store
