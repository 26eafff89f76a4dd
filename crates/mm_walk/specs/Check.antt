-- What a check of a rule does.
use Rattle.std.specs.Prelude.{◌≡◌, ◌↔◌, Bool, false, IsTrue, Result, IfOk, IfErr, OnOk}
use Rattle.sqlite.specs.State.{State, HasCleanDisk}
use Rattle.mm_definitions.specs.Bounds.{Profile}
use Rattle.mm_definitions.specs.Package.{Package}
use Rattle.mm_definitions.specs.declared.answers.Fault.{Fault}
use Rattle.mm_definitions.specs.Faults.{IsStoreFault}
use Rattle.mm_store.specs.Seen.{IsSeenAs}
use Rattle.mm_store.specs.Stands.{IsSettled}
use Rattle.mm_store.specs.Statements.{CommitsNothing}
use Rattle.std.specs.Prelude.{⊤}
use Rattle.sqlite.specs.Held.{Held, state}
use Rattle.sqlite.specs.Store.{Ghosts}
use Rattle.mm_definitions.specs.Rules.{Limits}

-- It opens no transaction, writes nothing, and leaves the connection reading as before, and settled where it was. It
-- tells whether the rule holds of the package that the connection reads as, which is known to meet `Known`; where it
-- does, the store is open. Its faults are the store's, and none is a rule's.
pub record IsCheck (profile : Profile) (old new : State) (Known Rule : Package → Type 0)
    (result : Result Bool Fault) : Type 0 where
  pub mode : old.in_transaction ≡ false → new.in_transaction ≡ false
  pub survives : CommitsNothing old new
  pub is_open : HasCleanDisk new → OnOk result (IsTrue new.is_open)
  pub seen : HasCleanDisk new → (p : Package) → IsSeenAs profile old p → IsSeenAs profile new p
  pub settled : HasCleanDisk new → (p : Package) → IsSettled profile old p → IsSettled profile new p
  pub says : HasCleanDisk new → (p : Package) → IsSeenAs profile old p → Known p → IfOk result (λ b. IsTrue b ↔ Rule p)
  pub faults : IfErr result IsStoreFault

module _ {S : Type 0} (g : Ghosts S) (old new : Held S) where
  -- a check whether the package has this, under one profile
  abbrev pub DecidesUnder : Profile → (Package → Type 0) → Result Bool Fault → Type 0
  DecidesUnder profile = IsCheck profile (state g old) (state g new) (λ _. ⊤)

  -- the same, of a package within the limits
  abbrev pub DecidesWithinUnder : Profile → (Package → Type 0) → Result Bool Fault → Type 0
  DecidesWithinUnder profile = IsCheck profile (state g old) (state g new) (λ p. Limits profile p)

  -- a check whether the package has this, whatever the profile is
  abbrev pub Decides : (Package → Type 0) → Result Bool Fault → Type 0
  Decides Rule result = (profile : Profile) → DecidesUnder profile Rule result

  -- the same, of a package within the limits
  abbrev pub DecidesWithin : (Package → Type 0) → Result Bool Fault → Type 0
  DecidesWithin Rule result = (profile : Profile) → DecidesWithinUnder profile Rule result
