-- The files of a folder in memory.
use Rattle.std.specs.Prelude.{◌≡◌, ℕ, List, [], ◌∷◌, Option, Some, None, bytes_eq, string_bytes, if◌then◌else◌}
use Rattle.std.specs.Borrow.{Bor}
use Rattle.mm_definitions.specs.Keys.{Text}
use Rattle.mm_kit.specs.declared.memory.MemoryFile.{MemoryFile}

-- the bytes of the first file of a name
unfoldable pub file_at : List MemoryFile → Text → Option (List ℕ)
file_at [] name = None
file_at (file ∷ rest) name = if bytes_eq (string_bytes file.name) name then Some file.bytes.items else file_at rest name

-- the file that was found holds these bytes; none was found where there are none
abbrev pub IsInFolder : Option (List ℕ) → Option (Bor MemoryFile) → Type 0
IsInFolder bytes None = bytes ≡ None
IsInFolder bytes (Some file) = bytes ≡ Some file.now.bytes.items
