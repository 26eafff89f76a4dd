-- What a call does with the transaction that it is handed, whatever the profile is. Each leaves it the transaction on
-- the same connection (`same`).
use Rattle.std.specs.Prelude.{◌≡◌, ◌⊎◌, ℕ, ⊤, List, Option, Result, IfOk, IfErr, IsTrue}
use Rattle.sqlite.specs.Held.{state}
use Rattle.sqlite.specs.Order.{Row}
use Rattle.sqlite.specs.State.{HasCleanDisk, FailsToQuery, IsTooLate}
use Rattle.sqlite.specs.Store.{Ghosts}
use Rattle.sqlite.specs.declared.error.Error.{Error}
use Rattle.sqlite.specs.declared.transaction.Transaction.{Transaction}
use Rattle.mm_definitions.specs.Bounds.{Profile}
use Rattle.mm_definitions.specs.Conditions.{Reasons, least}
use Rattle.mm_definitions.specs.Package.{Package}
use Rattle.mm_definitions.specs.Rules.{Meets}
use Rattle.mm_definitions.specs.Step.{refusal, step}
use Rattle.mm_definitions.specs.declared.answers.Fault.{Fault}
use Rattle.mm_definitions.specs.declared.answers.Outcome.{Outcome}
use Rattle.mm_definitions.specs.declared.commands.Command.{Command}
use Rattle.mm_store.specs.Stands.{Ground, StandsOn, StandsInside}
use Rattle.mm_store.specs.Shapes.{refused_as}
use Rattle.mm_definitions.specs.Faults.{IsStoreFault}
use Rattle.mm_store.specs.Faults.{told_as}
use Rattle.mm_store.specs.Statements.{CommitsNothing, AreGiven, IsAsked, IsRun}

-- both are the transaction on one connection
abbrev pub IsSame : {S : Type 0} → Transaction S → Transaction S → Type 0
IsSame old new = new.conn.ghost_name ≡ old.conn.ghost_name

module _ {S : Type 0} (g : Ghosts S) (old new : Transaction S) where
  -- ---- a statement
  module _ {T : Type 0} (sql : List ℕ) (params : Row) where
    -- it runs the statement
    pub record Runs (result : Result T Fault) : Type 0 where
      pub same : IsSame old new
      pub run : IsRun (state g old.conn.now) (state g new.conn.now) sql params result

    -- it asks the statement, and answers all rows so
    pub record AsksAll (rows_of : T → List Row) (result : Result T Fault) : Type 0 where
      pub same : IsSame old new
      pub listed : AreGiven (state g old.conn.now) (state g new.conn.now) sql params rows_of result

    -- It asks the statement, and answers so of the first row. A fault is the error with which the statement failed.
    pub record AsksFirst (Says : T → Option Row → Type 0) (result : Result T Fault) : Type 0 where
      pub same : IsSame old new
      pub asked : IsAsked (state g old.conn.now) (state g new.conn.now) sql params Says result
      pub failed : HasCleanDisk (state g new.conn.now)
          → IfErr result (λ fault. (e : Error) × (fault ≡ told_as e)
          × (FailsToQuery sql params (state g old.conn.now) (state g new.conn.now) e
          ⊎ IsTooLate sql params (state g old.conn.now) (state g new.conn.now) e))

  module _ {T : Type 0} where
    -- it asks the statement, and answers so of the first row
    pub record Asks (sql : List ℕ) (params : Row) (Says : T → Option Row → Type 0) (result : Result T Fault) : Type 0
      where
        pub same : IsSame old new
        pub asked : IsAsked (state g old.conn.now) (state g new.conn.now) sql params Says result

    -- Where `When` holds of the package, a success leaves the transaction standing for `next`, and `Says` holds of the
    -- package before and of the answer. Nothing is committed, a rollback goes back to where it did, after a fault too,
    -- and a fault is 90 or 91.
    pub record Goes (When : Profile → Package → Type 0) (next : Package → T → Package)
        (Says : Profile → Package → T → Type 0) (result : Result T Fault) : Type 0 where
      pub same : IsSame old new
      pub survives : CommitsNothing (state g old.conn.now) (state g new.conn.now)
      pub on : HasCleanDisk (state g new.conn.now) → (profile : Profile) (ground : Ground) (p : Package)
          → StandsInside profile (state g old.conn.now) ground p
          → When profile p → StandsOn (state g new.conn.now) ground
      pub comes : HasCleanDisk (state g new.conn.now) → (profile : Profile) (ground : Ground) (p : Package)
          → StandsInside profile (state g old.conn.now) ground p
          → When profile p
          → IfOk result (λ it. IsTrue (state g new.conn.now).is_open × StandsInside profile (state g new.conn.now)
          ground (next p it) × Says profile p it)
      pub faults : IfErr result IsStoreFault

    -- it only looks, and answers so of the package
    abbrev pub Looks : (Package → T → Type 0) → Result T Fault → Type 0
    Looks Says = Goes (λ profile p. ⊤) (λ p it. p) (λ profile. Says)

    -- it only looks, and answers this of the package
    abbrev pub Tells : (Package → T) → Result T Fault → Type 0
    Tells told = Looks (λ p answer. answer ≡ told p)

    -- it only looks, and answers so of a package that meets the rules
    abbrev pub LooksByRules : (Package → T → Type 0) → Result T Fault → Type 0
    LooksByRules Says = Goes (λ profile p. ⊤) (λ p it. p) (λ profile p it. Meets profile p → Says p it)

    -- it makes this change where it may
    abbrev pub ChangesWhere : (Package → Type 0) → (Package → Package) → Result T Fault → Type 0
    ChangesWhere When next = Goes (λ profile. When) (λ p it. next p) (λ profile p it. ⊤)

    -- it makes this change
    abbrev pub Changes : (Package → Package) → Result T Fault → Type 0
    Changes = ChangesWhere (λ p. ⊤)

  -- ---- a command

  -- it only looks, and answers the least of these reasons of a package that meets the rules, if any holds
  abbrev pub FindsRefusal : (Package → Reasons) → Result (Option ℕ) Fault → Type 0
  FindsRefusal reasons = LooksByRules (λ p why. why ≡ least (reasons p))

  -- it does the command, whatever the moment is
  pub record Applies (command : Command) (result : Result Outcome Fault) : Type 0 where
    pub goes : (moment : ℕ) → Goes Meets (λ p it. step p command moment)
        (λ profile p it. refusal p command ≡ refused_as it) result
