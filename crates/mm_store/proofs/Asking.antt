-- What a statement inside a transaction leaves of the ground, and queries whose answers are made of others'.
use Rattle.std.proofs.Common.{◌≡◌, ◌⊎◌, inl, inr, ℕ, List, Bool, Option, Ok, Err, is_some, ap, ◌∙◌, cond, true, false}
use Rattle.sqlite.specs.declared.error.Error.{Error}
use Rattle.sqlite.specs.Order.{Row}
use Rattle.sqlite.specs.State.{State, KeepsCommit}
use Rattle.mm_definitions.specs.declared.answers.Fault.{Fault}
use Rattle.mm_store.specs.Stands.{Ground, StandsOn}
use Rattle.mm_definitions.specs.Faults.{memory, store, IsStoreFault}
use Rattle.mm_store.specs.Faults.{wants_memory, told_as}
use Rattle.mm_store.specs.Statements.{IsAsked}

pub kept_on : (old new : State) → KeepsCommit old new → (ground : Ground) → StandsOn old ground → StandsOn new ground
kept_on old new keeps ground on now = let it = on (keeps.was_open now) in (keeps.committed now ∙ it.0, it.1)

-- a fault of one of the two numbers is one of the store
pub store_fault : (fault : Fault) → (fault.0 ≡ memory.0) ⊎ (fault.0 ≡ store.0) → IsStoreFault fault
store_fault fault (inl is) = inl (λ i. record { 0 = is i })
store_fault fault (inr is) = inr (λ i. record { 0 = is i })

pub told_fault : (e : Error) (fault : Fault) → fault ≡ told_as e → IsStoreFault fault
told_fault e fault is = elim (wants_memory e) as (λ b. fault ≡ cond b memory store → IsStoreFault fault)
    [ true ↦ λ same. inl same | false ↦ λ same. inr same ] is

module _ (old new : State) (sql : List ℕ) (params : Row) where
  pub some_asked : (first : Option Row) (found : Bool) → found ≡ is_some first
      → IsAsked old new sql params (λ (it : Option Row) first. it ≡ first) (Ok first)
      → IsAsked old new sql params (λ (it : Bool) first. it ≡ is_some first) (Ok found)
  some_asked first found is asked =
      record {
        survives = asked.survives;
        on = asked.on;
        gives = λ clean. let g = asked.gives clean in (g.0, g.1, is ∙ ap is_some g.2);
        faults = tt;
      }

  pub fault_asked : (fault : Fault) → IsAsked old new sql params (λ (it : Option Row) first. it ≡ first) (Err fault)
      → {U : Type 0} (Gives : U → Option Row → Type 0) → IsAsked old new sql params Gives (Err fault)
  fault_asked fault asked Gives =
      record { survives = asked.survives; on = asked.on; gives = λ clean. tt; faults = asked.faults }
