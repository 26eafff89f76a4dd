-- What a viewer tells of a package, and what stays as it was.
use Rattle.std.specs.Prelude.{◌≡◌, ◌⊎◌, Bool, true, false, Result, Ok, Err, ⊤}
use Rattle.sqlite.specs.State.{State, HasCleanDisk}
use Rattle.mm_definitions.specs.Bounds.{current}
use Rattle.mm_definitions.specs.Faults.{memory, store, reopen}
use Rattle.mm_definitions.specs.Package.{Package}
use Rattle.mm_definitions.specs.Rules.{Meets}
use Rattle.mm_definitions.specs.declared.answers.Fault.{Fault}
use Rattle.mm_store.specs.Seen.{IsSeenAs}
use Rattle.mm_store.specs.Stands.{IsSettled}
use Rattle.mm_store.specs.Statements.{CommitsNothing}

-- It reads as the package that it read as, is settled where it was, and what a crash may leave is what it might have
-- left before.
pub record LeavesPackage (old new : State) : Type 0 where
  pub survives : CommitsNothing old new
  pub seen : HasCleanDisk new → (p : Package) → IsSeenAs current old p → IsSeenAs current new p
  pub settled : HasCleanDisk new → (p : Package) → IsSettled current old p → IsSettled current new p

-- The viewer reads as a package that meets the rules. Of one that has failed nothing is asked: it reads no package.
abbrev pub IsOn : Bool → State → State → Package → Type 0
IsOn failed old new p = failed ≡ false → HasCleanDisk new × Meets current p × IsSeenAs current old p

-- an answer shows this value, and a fault shows nothing
abbrev pub ShowsValue : {A B : Type 0} → (A → B) → B → Result A Fault → Type 0
ShowsValue shown value (Ok a) = shown a ≡ value
ShowsValue shown value (Err fault) = ⊤

-- an answer shows that part of each package that the viewer is on; a fault shows nothing
abbrev pub ShowsPart : {A B : Type 0} → (Package → Type 0) → (A → B) → (Package → B) → Result A Fault → Type 0
ShowsPart on shown part result = (p : Package) → on p → ShowsValue shown (part p) result

-- A viewer that has failed answers 92 and nothing else, as a session that has to be opened again does; another 90 for
-- want of memory, or 91 where the store fails.
abbrev pub IsViewFault : Bool → Fault → Type 0
IsViewFault failed fault = ((failed ≡ false) × ((fault.0 ≡ memory.0) ⊎ (fault.0 ≡ store.0)))
    ⊎ ((failed ≡ true) × (fault.0 ≡ reopen.0))
