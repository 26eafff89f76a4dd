-- What is told of a package that is checked wholly: the form of its blobs, and then its rules.
use Rattle.std.specs.Prelude.{◌≡◌, ⊤, false, Result, Ok, Err, OnOk, IsTrue}
use Rattle.sqlite.specs.State.{State, HasCleanDisk}
use Rattle.mm_definitions.specs.Bounds.{Profile}
use Rattle.mm_definitions.specs.Package.{Package}
use Rattle.mm_definitions.specs.Rules.{Meets}
use Rattle.mm_definitions.specs.declared.answers.Open.{Open}
use Rattle.mm_definitions.specs.declared.answers.Open.TheVariants as opens
use Rattle.mm_definitions.specs.Faults.{IsStoreFault}
use Rattle.mm_store.specs.Seen.{IsSeenAs}
use Rattle.mm_store.specs.Stands.{IsSettled}
use Rattle.mm_store.specs.Statements.{CommitsNothing}
use Rattle.mm_check.specs.Verdict.{IsFailing}
use Rattle.mm_check.specs.Form.{TellsForm}

-- what the whole check tells of a package: it meets the rules, or this one fails; a package's blobs have their form
abbrev pub Judged : Profile → Package → Result (Unit {0}) Open → Type 0
Judged profile p (Ok _) = Meets profile p
Judged profile p (Err (opens.Rule rule)) = IsFailing profile p rule
Judged profile p (Err (opens.Fault fault)) = ⊤
Judged profile p (Err _) = ⊥

-- the fault of a result, if it is one, is the store's
abbrev pub OnlyStoreFaults : Result (Unit {0}) Open → Type 0
OnlyStoreFaults (Err (opens.Fault fault)) = IsStoreFault fault
OnlyStoreFaults _ = ⊤

-- it is no opening number that the profile's row gives
abbrev pub NoNumber : Result (Unit {0}) Open → Type 0
NoNumber (Err (opens.Version version)) = ⊥
NoNumber (Err opens.NoProfile) = ⊥
NoNumber (Err opens.BadProfile) = ⊥
NoNumber _ = ⊤

-- It wrote nothing, leaves the connection reading as before, and settled where it was, and, at `Ok`, the store open. It
-- answers what the form of the blobs and the whole check tell.
pub record IsChecked (profile : Profile) (old new : State) (result : Result (Unit {0}) Open) : Type 0 where
  pub mode : old.in_transaction ≡ false → new.in_transaction ≡ false
  pub survives : CommitsNothing old new
  pub is_open : HasCleanDisk new → OnOk result (IsTrue new.is_open)
  pub seen : HasCleanDisk new → (p : Package) → IsSeenAs profile old p → IsSeenAs profile new p
  pub settled : HasCleanDisk new → (p : Package) → IsSettled profile old p → IsSettled profile new p
  pub says : HasCleanDisk new → (p : Package) → IsSeenAs profile old p → Judged profile p result
  pub blobs : HasCleanDisk new → TellsForm old result
  pub no_number : NoNumber result
  pub faults : OnlyStoreFaults result
