-- Which package a connection reads as, and what a call does that reads on it.
use Rattle.std.specs.Prelude.{◌≡◌, false, Result, IfOk, IfErr, IsTrue}
use Rattle.sqlite.specs.State.{State, HasCleanDisk}
use Rattle.mm_definitions.specs.Bounds.{Profile}
use Rattle.mm_definitions.specs.Package.{Package}
use Rattle.mm_definitions.specs.Rules.{Meets}
use Rattle.mm_definitions.specs.declared.answers.Fault.{Fault}
use Rattle.mm_definitions.specs.Faults.{IsStoreFault}
use Rattle.mm_store.specs.Stands.{ReadsAs, IsSettled}
use Rattle.mm_store.specs.Statements.{CommitsNothing}
use Rattle.sqlite.specs.Held.{Held, state}
use Rattle.sqlite.specs.Store.{Ghosts}

-- No transaction is open, and the connection reads as the package, after a rollback too. What a crash would leave may
-- be another.
pub record IsSeenAs (profile : Profile) (s : State) (p : Package) : Type 0 where
  pub mode : s.in_transaction ≡ false
  pub back : IsTrue s.is_open → ReadsAs profile.version s.committed p
  pub reads : IsTrue s.is_open → ReadsAs profile.version s.now p

-- A read on a connection with no transaction: it tells of the package that the connection reads as, where that meets
-- the rules. After a fault too the connection reads as before, and is settled where it was.
pub record IsRead (profile : Profile) {T : Type 0} (old new : State) (Says : Package → T → Type 0)
    (result : Result T Fault) : Type 0 where
  pub survives : CommitsNothing old new
  pub seen : HasCleanDisk new → (p : Package) → IsSeenAs profile old p → IsSeenAs profile new p
  pub settled : HasCleanDisk new → (p : Package) → IsSettled profile old p → IsSettled profile new p
  pub says : HasCleanDisk new → (p : Package) → Meets profile p → IsSeenAs profile old p → IfOk result (λ it. Says p it)
  pub faults : IfErr result IsStoreFault

-- a read on a connection with no transaction, which tells so of the package, whatever the profile is
abbrev pub ReadsOn : {S T : Type 0} → Ghosts S → Held S → Held S → (Package → T → Type 0) → Result T Fault → Type 0
ReadsOn g old new Says result = (profile : Profile) → IsRead profile (state g old) (state g new) Says result
