-- What the import of a kit comes to, and what is printed of it.
use Rattle.std.specs.Prelude.{ℕ, List, ◌++◌, Result, Ok, Err, codes, decimal}
use Rattle.sqlite.specs.State.{State}
use Rattle.mm_definitions.specs.Bounds.{current}
use Rattle.mm_definitions.specs.Keys.{Text}
use Rattle.mm_definitions.specs.Package.{Package}
use Rattle.mm_definitions.specs.declared.answers.Staged.{Staged}
use Rattle.mm_definitions.specs.declared.answers.Staged.TheVariants as answers
use Rattle.mm_definitions.specs.declared.answers.KitFault.{KitFault}
use Rattle.mm_store.specs.Stands.{IsSettled}
use Rattle.mm_core.specs.Applied.{StandsForCurrent}
use Rattle.mm_kit.specs.Folders.{Files}
use Rattle.mm_kit.specs.Imports.{IsImportAnswered, IsImportStopped}

-- answered, and the connection is settled for the package after it; or stopped by a fault, and so much may be left
abbrev pub IsImport : Files → Text → Package → State → Result Staged KitFault → Type 0
IsImport files name p new (Ok answer) = IsImportAnswered files name p (λ q. IsSettled current new q) answer
IsImport files name p new (Err stopped) =
    IsImportStopped files name p (λ db. new.may_leave db) StandsForCurrent stopped.staged

-- the line of an import that was answered: the number of pieces, or the piece that was refused and its number
abbrev pub staged_text : Staged → List ℕ
staged_text (answers.Complete count) = codes "kit complete " ++ decimal count ++ codes "\n"
staged_text (answers.Refused piece number) =
    codes "kit refused " ++ decimal piece ++ codes " " ++ decimal number ++ codes "\n"

-- the exit status of an import that was answered: 0 where it is complete, 1 where it was refused
abbrev pub staged_status : Staged → ℕ
staged_status (answers.Complete count) = 0
staged_status (answers.Refused piece number) = 1

-- the line that is printed of an import
abbrev pub kit_text : Result Staged KitFault → List ℕ
kit_text (Ok staged) = staged_text staged
kit_text (Err stopped) = codes "kit fault " ++ decimal stopped.fault.0 ++ codes "\n"

-- the exit status of an import, 3 where a fault ended it
abbrev pub kit_status : Result Staged KitFault → ℕ
kit_status (Ok staged) = staged_status staged
kit_status (Err stopped) = 3
