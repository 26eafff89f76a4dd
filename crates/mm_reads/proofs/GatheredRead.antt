-- A walk whose visitor keeps what it gathers is a read.
use Rattle.std.proofs.Common.{◌≡◌, ◌⊎◌, inl, inr, ℕ, Bool, List, Result, Ok, Err, IfOk, IfErr, Vec, Global, sym, subst}
use Rattle.sqlite.specs.Order.{Row}
use Rattle.sqlite.specs.State.{State, HasCleanDisk}
use Rattle.mm_definitions.specs.Bounds.{Profile}
use Rattle.mm_definitions.specs.Package.{Package}
use Rattle.mm_definitions.specs.declared.answers.Fault.{Fault}
use Rattle.mm_definitions.specs.Faults.{IsStoreFault}
use Rattle.mm_store.specs.Seen.{IsSeenAs, IsRead}
use Rattle.mm_store.proofs.Seen.{settled_still}
use Rattle.mm_walk.specs.Walk.{OnlyAsks, Ends, IsWalk}
use Rattle.mm_walk.proofs.Resting.{seen_still, ends_rest}

-- what was gathered, where the walk did not fail
abbrev pub Found : {X : Type 0} → List X → Result Bool Fault → Result (Vec X Global) Fault → Type 0
Found gathered (Ok goes) (Ok found) = found.items ≡ gathered
Found gathered (Ok goes) (Err fault) = ⊥
Found gathered (Err fault) (Ok found) = ⊥
Found gathered (Err fault) (Err other) = fault ≡ other

module _ {V X : Type 0} (takes : V → Row → V → Result Bool Fault → Type 0) (sql : List ℕ) (given : Row)
    (old new : State) (v w : V) (gathered : List X) (profile : Profile) (asks : OnlyAsks old.now.schema sql)
    (Lists : Package → List X → Type 0) (told : (p : Package) → IsSeenAs profile old p → (result : Result Bool Fault)
    → Ends takes sql given old new v w result → IfOk result (λ _. Lists p gathered))
    (fails : (before : V) (row : Row) (fault : Fault) → takes before row w (Err fault) → IsStoreFault fault) where
  pub gathered_read : (result : Result Bool Fault) (last : Result (Vec X Global) Fault)
      → IsWalk takes sql given old new v w result
      → Found gathered result last → IsRead profile old new (λ p (found : Vec X Global). Lists p found.items) last
  gathered_read result last it found = record {
    survives = it.survives asks;
    seen = seen;
    settled = λ clean p was. settled_still profile old new p (it.survives asks) clean (seen clean p) was;
    says = λ clean p meets was. says p result last found (told p was result (it.walked clean asks));
    faults = faults result last found it.faults;
  }
    where
      seen : HasCleanDisk new → (p : Package) → IsSeenAs profile old p → IsSeenAs profile new p
      seen clean p = seen_still profile old new p (ends_rest takes sql given old new v w result (it.walked clean asks))

      says : (p : Package) (result : Result Bool Fault) (last : Result (Vec X Global) Fault)
          → Found gathered result last
          → IfOk result (λ _. Lists p gathered) → IfOk last (λ found. Lists p found.items)
      says p (Ok goes) (Ok found) same h = subst (Lists p) (sym same) h
      says p (Err fault) (Ok found) none h = absurd none
      says p result (Err fault) found h = tt

      faults : (result : Result Bool Fault) (last : Result (Vec X Global) Fault) → Found gathered result last
          → IfErr result (λ fault. IsStoreFault fault ⊎ ((before : V) × (row : Row) × takes before row w (Err fault)))
          → IfErr last IsStoreFault
      faults result (Ok found) same h = tt
      faults (Ok goes) (Err fault) none h = absurd none
      faults (Err fault) (Err other) same (inl stored) = subst IsStoreFault same stored
      faults (Err fault) (Err other) same (inr step) = subst IsStoreFault same (fails step.0 step.1 fault step.2)
