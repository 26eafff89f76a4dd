-- The faults by name, each with the number that is told of it (docs/FORMATS.md). There is no other.
use Rattle.std.specs.Prelude.{◌≡◌, ◌⊎◌}
use Rattle.mm_definitions.specs.declared.answers.Fault.{Fault}

-- memory was refused, or the store answered want of memory
abbrev pub memory : Fault
memory = record { 0 = 90 }

-- the store answered another error, or a value that no package under the rules holds
abbrev pub store : Fault
store = record { 0 = 91 }

-- an earlier command ended in one of these two, so the file has to be opened again
abbrev pub reopen : Fault
reopen = record { 0 = 92 }

-- the input failed
abbrev pub input : Fault
input = record { 0 = 96 }

-- the output failed
abbrev pub output : Fault
output = record { 0 = 97 }

-- those of a call that asks the store, and no other
abbrev pub IsStoreFault : Fault → Type 0
IsStoreFault fault = (fault ≡ memory) ⊎ (fault ≡ store)
