-- The files of a folder that tells them.
use Rattle.std.specs.Prelude.{◌≡◌, ◌≤◌, ◌<◌, ℕ, length, List, Bool, true, false, Option, Some, None, Result, Ok, Err}
use Rattle.mm_definitions.specs.Faults.{memory, input}
use Rattle.mm_definitions.specs.Keys.{Text}
use Rattle.mm_kit.specs.declared.folders.Found.{Found}
use Rattle.mm_kit.specs.declared.folders.Found.TheVariants.{Bytes, TooLong, Missing}
use Rattle.mm_kit.specs.declared.folders.FolderFault.{FolderFault}
use Rattle.mm_kit.specs.declared.folders.FolderFault.TheVariants.{Memory, Failed}

-- the bytes of each file, by its name
abbrev pub Files : Type 0
Files = Text → Option (List ℕ)

-- what is found of a file, where so many bytes were asked for at most
abbrev pub FindsFile : Option (List ℕ) → ℕ → Found → Type 0
FindsFile file most (Bytes v) = (file ≡ Some v.items) × (length v.items ≤ most)
FindsFile file most TooLong = (bytes : List ℕ) × (file ≡ Some bytes) × (most < length bytes)
FindsFile file most Missing = file ≡ None

-- the fault is the folder's own
abbrev pub is_own : FolderFault → Bool
is_own Memory = false
is_own Failed = true

-- the folder failed at what was asked of it
abbrev pub is_failure : {A : Type 0} → Result A FolderFault → Bool
is_failure (Ok a) = false
is_failure (Err fault) = is_own fault

-- the fault that an import tells of it: 90 want of memory, 96 the folder
abbrev pub fault_number : FolderFault → ℕ
fault_number Memory = memory.0
fault_number Failed = input.0
