-- Why a file is not opened, or not adopted.
use Rattle.std.specs.Prelude.{◌≡◌, ◌⊎◌, ⊤, ℕ, Option, None}
use Rattle.mm_definitions.specs.Faults as faults
use Rattle.mm_definitions.specs.declared.answers.Fault.{Fault}
use Rattle.mm_work.specs.declared.stop.NoPackage.TheVariants as causes
use Rattle.mm_work.specs.declared.stop.Stop.{Stop}
use Rattle.mm_work.specs.declared.stop.Stop.TheVariants as stops

-- 90 want of memory, 91 the store, 96 the system
abbrev pub IsFileFault : Fault → Type 0
IsFileFault fault = (fault.0 ≡ faults.memory.0) ⊎ (fault.0 ≡ faults.store.0) ⊎ (fault.0 ≡ faults.input.0)

-- of any file
abbrev pub StopsAny : Stop → Type 0
StopsAny (stops.Fault fault) = IsFileFault fault
StopsAny other = ⊥

-- of one of so many bytes, or of a new one
abbrev pub StopsOn : Option ℕ → Stop → Type 0
StopsOn bytes stops.NotEmpty = bytes ≡ None
StopsOn bytes other = StopsAny other

-- of one that is to be made
abbrev pub StopsNew : Stop → Type 0
StopsNew stops.NotEmpty = ⊤
StopsNew other = StopsAny other

-- of one that is there
abbrev pub StopsOld : Stop → Type 0
StopsOld (stops.NotPackage cause) = cause ≡ causes.NoProfile
StopsOld other = StopsAny other

-- the check or the migration of a file never tells that it is not empty
abbrev pub StopsCheck : Stop → Type 0
StopsCheck stops.NotEmpty = ⊥
StopsCheck (stops.NotPackage cause) = ⊤
StopsCheck (stops.Rule rule) = ⊤
StopsCheck (stops.Fault fault) = ⊤
