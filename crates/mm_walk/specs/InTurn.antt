-- Rules by number, and what checks that are asked in turn have told so far.
use Rattle.std.specs.Prelude.{◌≡◌, ℕ, ◌≤◌, ◌<◌, Bool, true, false, IsTrue}
use Rattle.sqlite.specs.State.{State, HasCleanDisk}
use Rattle.mm_definitions.specs.Bounds.{Profile}
use Rattle.mm_definitions.specs.Package.{Package}
use Rattle.mm_store.specs.Seen.{IsSeenAs}
use Rattle.mm_store.specs.Stands.{IsSettled}
use Rattle.mm_store.specs.Statements.{CommitsNothing}

-- the first of two where the test is true, else the second
abbrev pub chosen : Bool → Type 0 → Type 0 → Type 0
chosen true A B = A
chosen false A B = B

-- each rule of a numbered family holds from 1 to k - 1
abbrev pub HoldsBelow : (ℕ → Package → Type 0) → ℕ → Package → Type 0
HoldsBelow family k p = (j : ℕ) → 1 ≤ j → j < k → family j p

-- so far each check that was asked has told that its rule holds, so `Shown` holds where `Known` does; and where one was
-- asked, the store is open
pub record HasPassed (profile : Profile) (Known : Package → Type 0) (old now : State) (Asked : Type 0)
    (Shown : Package → Type 0) : Type 0 where
  pub mode : old.in_transaction ≡ false → now.in_transaction ≡ false
  pub survives : CommitsNothing old now
  pub is_open : HasCleanDisk now → Asked → IsTrue now.is_open
  pub seen : HasCleanDisk now → (p : Package) → IsSeenAs profile old p → IsSeenAs profile now p
  pub settled : HasCleanDisk now → (p : Package) → IsSettled profile old p → IsSettled profile now p
  pub says : HasCleanDisk now → (p : Package) → IsSeenAs profile old p → Known p → Shown p
