-- What a function leaves that runs one statement inside a transaction, or asks one query.
use Rattle.std.specs.Prelude.{◌≡◌, ℕ, ℤ, String, string_bytes, List, Option, Some, None, Result, Ok, Err, OnOk, IfOk}
use Rattle.std.specs.Prelude.{IfErr, IsTrue}
use Rattle.sqlite.specs.declared.error.Error.{Error}
use Rattle.sqlite.specs.declared.types.Value.TheVariants.{Int, Text as Words}
use Rattle.sqlite.specs.Order.{Row, column}
use Rattle.sqlite.specs.State.{State, HasCleanDisk, Survives, Shown, ExecutesInside}
use Rattle.sql_forms.specs.Tables.{IsFirstShown}
use Rattle.mm_definitions.specs.declared.answers.Fault.{Fault}
use Rattle.mm_store.specs.Stands.{Ground, StandsOn}
use Rattle.mm_definitions.specs.Faults.{IsStoreFault}
use Rattle.mm_store.specs.Faults.{told_as}

-- It commits nothing: a crash leaves what it left before.
abbrev pub CommitsNothing : State → State → Type 0
CommitsNothing old new = Survives old new (λ _. ⊥)

-- a rollback goes back to where it did
abbrev pub KeepsGround : State → State → Type 0
KeepsGround old new = HasCleanDisk new → IsTrue old.in_transaction → (ground : Ground) → StandsOn old ground
    → StandsOn new ground

module _ {T : Type 0} (old new : State) (sql : List ℕ) (params : Row) where
  -- The statement was run, whatever came of it. A fault tells the error that the store answered.
  pub record IsRun (result : Result T Fault) : Type 0 where
    pub survives : CommitsNothing old new
    pub on : KeepsGround old new
    pub ran : HasCleanDisk new → IsTrue old.in_transaction
        → OnOk result ((count : ℕ) × ExecutesInside 0 sql params old new (Ok count))
    pub failed : HasCleanDisk new → IsTrue old.in_transaction
        → IfErr result (λ fault. (e : Error) × (fault ≡ told_as e) × ExecutesInside 0 sql params old new (Err e))
    pub faults : IfErr result IsStoreFault

  -- The query was asked, and gives its first row so.
  pub record IsAsked (Gives : T → Option Row → Type 0) (result : Result T Fault) : Type 0 where
    pub survives : CommitsNothing old new
    pub on : KeepsGround old new
    pub gives : HasCleanDisk new → IfOk result (λ it. (first : Option Row) × IsFirstShown sql params old new first
        × Gives it first)
    pub faults : IfErr result IsStoreFault

  -- The query was asked, and shows all these rows.
  pub record AreGiven (rows_of : T → List Row) (result : Result T Fault) : Type 0 where
    pub survives : CommitsNothing old new
    pub on : KeepsGround old new
    pub lists : HasCleanDisk new → IfOk result (λ it. Shown sql params old new (rows_of it))
    pub faults : IfErr result IsStoreFault

-- the row has this text, or these two numbers, in its first columns
abbrev pub GivesText : {A : Type 0} → Option (String A) → Option Row → Type 0
GivesText None first = first ≡ None
GivesText (Some text) first = (row : Row) × (first ≡ Some row) × (column row 0 ≡ Words (string_bytes text))

-- the row has these two numbers in its first two columns, and there is none where there are no numbers
abbrev pub GivesPair : Option (ℤ × ℤ) → Option Row → Type 0
GivesPair None first = first ≡ None
GivesPair (Some pair) first = (row : Row) × (first ≡ Some row) × (column row 0 ≡ Int pair.0)
    × (column row 1 ≡ Int pair.1)
