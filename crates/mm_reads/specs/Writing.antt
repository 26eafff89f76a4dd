-- What becomes of a text that is written line by line.
use Rattle.std.specs.Prelude.{◌≡◌, ◌⊎◌, ℕ, Bool, true, List, ◌++◌, Option, Result, Ok, Err}
use Rattle.std.specs.Io.KnownBytes.{Appends}
use Rattle.sqlite.specs.Order.{Row}
use Rattle.sqlite.specs.State.{State, HasCleanDisk}
use Rattle.mm_definitions.specs.Bounds.{Profile}
use Rattle.mm_definitions.specs.Faults.{output, IsStoreFault}
use Rattle.mm_definitions.specs.Package.{Package}
use Rattle.mm_definitions.specs.declared.answers.Fault.{Fault}
use Rattle.mm_store.specs.Seen.{IsSeenAs}
use Rattle.mm_store.specs.Stands.{IsSettled}
use Rattle.mm_store.specs.Statements.{CommitsNothing}
use Rattle.mm_definitions.specs.Streams.{Written}
pub use Rattle.mm_io.specs.Sending.{IsOut}
use Rattle.sqlite.specs.Held.{Held, state}
use Rattle.sqlite.specs.Store.{Ghosts}

-- the writer failed
abbrev pub unwritten : Fault
unwritten = output

-- a beginning of the text was written, and no more
abbrev pub IsBegun : Option (List ℕ) → Option (List ℕ) → List ℕ → Type 0
IsBegun old new text = (front rest : List ℕ) × (text ≡ front ++ rest) × Appends old new front

-- ---- one line

-- The line was written whole, and the walk goes on; or the writer failed behind a beginning of it.
abbrev pub SendsLine : Written → Written → List ℕ → Result Bool Fault → Type 0
SendsLine old new line (Ok goes) = (goes ≡ true) × Appends old.contents new.contents line × (new.failed ≡ old.failed)
SendsLine old new line (Err fault) = (fault ≡ unwritten) × (new.failed ≡ true) × IsBegun old.contents new.contents line

-- The line that the row shows was written; or the row shows none, and nothing was; or the writer failed.
abbrev pub TakesLine : (Row → List ℕ → Type 0) → Written → Written → Row → Result Bool Fault → Type 0
TakesLine Shows old new row (Ok goes) = (line : List ℕ) × Shows row line × SendsLine old new line (Ok goes)
TakesLine Shows old new row (Err fault) =
    (IsStoreFault fault × (new.contents ≡ old.contents) × (new.failed ≡ old.failed))
    ⊎ ((line : List ℕ) × Shows row line × SendsLine old new line (Err fault))

-- ---- the whole text

-- at a fault a beginning of it
abbrev pub IsWritten : Option (List ℕ) → Option (List ℕ) → List ℕ → Result (Unit {0}) Fault → Type 0
IsWritten old new text (Ok done) = Appends old new text
IsWritten old new text (Err fault) = IsBegun old new text

-- 97 is answered exactly where the writer failed, and else 90 or 91
abbrev pub ListingTellsWriter : Bool → Bool → Result (Unit {0}) Fault → Type 0
ListingTellsWriter before failed (Ok done) = failed ≡ before
ListingTellsWriter before failed (Err fault) = (IsStoreFault fault × (failed ≡ before))
    ⊎ ((fault ≡ unwritten) × (failed ≡ true))

-- It commits nothing, leaves the connection reading as before, and settled where it was, and writes the text of the
-- package that it reads as.
pub record IsListed (profile : Profile) (text : Package → List ℕ) (old new : State) (held holds : Written)
    (result : Result (Unit {0}) Fault) : Type 0 where
  pub survives : CommitsNothing old new
  pub seen : HasCleanDisk new → (p : Package) → IsSeenAs profile old p → IsSeenAs profile new p
  pub settled : HasCleanDisk new → (p : Package) → IsSettled profile old p → IsSettled profile new p
  pub written : HasCleanDisk new → (p : Package) → IsSeenAs profile old p
      → IsWritten held.contents holds.contents (text p) result
  pub writer : ListingTellsWriter held.failed holds.failed result

-- the same of a connection, whatever the profile is
abbrev pub Lists : {S : Type 0} → Ghosts S → Held S → Held S → (Package → List ℕ) → Written → Written
    → Result (Unit {0}) Fault → Type 0
Lists g old new text before after result = (profile : Profile)
    → IsListed profile text (state g old) (state g new) before after result
