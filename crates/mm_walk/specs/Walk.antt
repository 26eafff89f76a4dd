-- What a walk over the rows of a query does.
use Rattle.std.specs.Prelude.{◌≡◌, ◌⊎◌, ℕ, Bool, true, false, List, [], ◌∷◌, ◌++◌, None, Result, Ok, Err, IfErr, IsTrue}
use Rattle.sqlite.specs.Order.{Row}
use Rattle.sqlite.specs.Schema.{Schema}
use Rattle.sqlite.specs.Listing.{understood}
use Rattle.sqlite.specs.State.{State, HasCleanDisk, IsUnchanged, IsRolledBack, Shown, Begins}
use Rattle.sql_forms.specs.Compiled.{Compiled}
use Rattle.mm_definitions.specs.declared.answers.Fault.{Fault}
use Rattle.mm_definitions.specs.Faults.{IsStoreFault}
use Rattle.mm_store.specs.Statements.{CommitsNothing}

-- the text is no write that shows rows
abbrev pub OnlyAsks : Schema → List ℕ → Type 0
OnlyAsks schema sql = (c : Compiled) → understood schema sql ≡ Ok c → c.returning ≡ None

-- all is as it was, or the store failed and undid the transaction
abbrev pub Rests : State → State → Type 0
Rests old new = IsUnchanged old new ⊎ IsRolledBack old new

-- an answer of the query begins with these rows, if any; only an open connection gives one
abbrev pub IsFront : List ℕ → Row → State → List Row → Type 0
IsFront sql params s rows = (rows ≡ []) ⊎ (IsTrue s.is_open × Begins sql params s rows)

module _ {V : Type 0} (takes : V → Row → V → Result Bool Fault → Type 0) where
  -- the visitor took each of the rows and went on
  abbrev pub TakesRows : V → List Row → V → Type 0
  TakesRows v [] w = v ≡ w
  TakesRows v (r ∷ rows) w = (u : V) × takes v r u (Ok true) × TakesRows u rows w

  -- some rows were taken, and it may be that the last of them ended the walk so
  abbrev pub Visits : V → V → Result Bool Fault → Type 0
  Visits v w result = (rows : List Row)
      × (TakesRows v rows w ⊎ ((before : V) × (row : Row) × TakesRows v rows before × takes before row w result))

  module _ (sql : List ℕ) (params : Row) (old new : State) (v w : V) where
    -- it took all rows of an answer
    pub record IsWhole : Type 0 where
      pub same : IsUnchanged old new
      pub rows : List Row
      pub shown : Shown sql params old new rows
      pub taken : TakesRows v rows w

    -- it took the first rows of an answer, and at the last of them it ended the walk so
    pub record IsEndedWalk (result : Result Bool Fault) : Type 0 where
      pub same : IsUnchanged old new
      pub rows : List Row
      pub last : Row
      pub begins : Begins sql params old (rows ++ last ∷ [])
      pub before : V
      pub taken : TakesRows v rows before
      pub ends : takes before last w result

    -- it took the first rows of an answer, and then the store failed
    pub record IsCutOff (fault : Fault) : Type 0 where
      pub rests : Rests old new
      pub rows : List Row
      pub begins : IsFront sql params old rows
      pub taken : TakesRows v rows w
      pub told : IsStoreFault fault

    -- how the walk ended, by its answer
    abbrev pub Ends : Result Bool Fault → Type 0
    Ends (Ok true) = IsWhole
    Ends (Ok false) = IsEndedWalk (Ok false)
    Ends (Err fault) = IsEndedWalk (Err fault) ⊎ IsCutOff fault

    -- It commits nothing, and what it answers says over which rows it went.
    pub record IsWalk (result : Result Bool Fault) : Type 0 where
      pub mode : old.in_transaction ≡ false → new.in_transaction ≡ false
      pub survives : OnlyAsks old.now.schema sql → CommitsNothing old new
      pub walked : HasCleanDisk new → OnlyAsks old.now.schema sql → Ends result
      pub visits : Visits v w result
      pub faults : IfErr result (λ fault. IsStoreFault fault
          ⊎ ((before : V) × (row : Row) × takes before row w (Err fault)))
