-- What became of an entry of a kit with the bytes of its file.
use Rattle.std.specs.Prelude.{ℕ, Bool, false, Option, Some, None, Result, Ok, Err}
use Rattle.mm_kit.specs.Folders.{is_own}
use Rattle.mm_kit.specs.declared.filling.Unfilled.{Unfilled}
use Rattle.mm_kit.specs.declared.filling.Unfilled.TheVariants.{Refused, Folder}

-- the value, or the number that refuses the file; nothing where the folder met a fault
abbrev pub full_of : {T : Type 0} → Result T Unfilled → Option (Result T ℕ)
full_of (Ok x) = Some (Ok x)
full_of (Err (Refused number)) = Some (Err number)
full_of (Err (Folder fault)) = None

-- the folder failed at what was asked of it
abbrev pub is_folders : {T : Type 0} → Result T Unfilled → Bool
is_folders (Ok x) = false
is_folders (Err (Refused number)) = false
is_folders (Err (Folder fault)) = is_own fault
