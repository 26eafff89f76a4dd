-- What a walk that tests each row tells of a query, and so of the database.
use Rattle.std.specs.Prelude.{◌≡◌, ◌↔◌, ℕ, Bool, true, false, List, [], ◌∷◌, ◌++◌, filter, Option, is_some}
use Rattle.std.specs.Prelude.{Result, Ok, Err, IfOk, IfErr, IfSome, OnOk, IsTrue, ⊤}
use Rattle.std.specs.List.{AllByRecursion, list_all}
use Rattle.sqlite.specs.Order.{Row}
use Rattle.sql_forms.specs.Key.{Key}
use Rattle.sql_forms.specs.Tree.{Trees}
use Rattle.sql_forms.specs.Term.{Term, Env, eval_all, holds}
use Rattle.sql_forms.specs.Query.{Join, end, inner, left, counted, made, folded, first, matches, or_nulls}
use Rattle.sql_forms.specs.Program.{overlay}
use Rattle.sql_forms.specs.Schema.{Schema}
use Rattle.sql_forms.specs.Command.TheVariants.{Select}
use Rattle.sql_forms.specs.Lists.{Has}
use Rattle.sqlite.specs.Listing.{understood, reads_listing}
use Rattle.sqlite.specs.State.{State, HasCleanDisk, IsUnchanged}
use Rattle.sqlite.proofs.Callers.{IsPlain, command_of}
use Rattle.sql_forms.specs.Forms.{query, no_limit, alone}
use Rattle.mm_definitions.specs.declared.answers.Fault.{Fault}
use Rattle.mm_definitions.specs.Faults.{IsStoreFault}
use Rattle.mm_store.specs.Statements.{CommitsNothing}
use Rattle.mm_walk.specs.Walk.{OnlyAsks, Rests}

-- The text is a query of this FROM, WHERE, list of columns and ORDER BY, with no GROUP BY, DISTINCT, LIMIT or OFFSET.
pub record IsQuery (schema : Schema) (sql : List ℕ) (from : Join) (terms project : List Term)
    (order : List (Term × Key)) (names : List (List ℕ)) : Type 0 where
  pub compiled : command_of (understood schema sql) ≡ Select (alone (query from terms project order no_limit)) names
  pub plain : IsPlain (understood schema sql)
  pub unlisted : reads_listing schema sql ≡ false

-- what holds where the test is true
abbrev pub OnTrue : Bool → Type 0 → Type 0
OnTrue true P = P
OnTrue false P = ⊤

-- P of each way to fill the slots of FROM from `env` on
abbrev pub EachMatch : Trees → List Term → Join → Env → (Env → Type 0) → Type 0
EachMatch db terms end env P = OnTrue (list_all (holds env) terms) (P env)
EachMatch db terms (inner t more) env P = (r : Row) → Has (db t) r → EachMatch db terms more (env ++ r ∷ []) P
EachMatch db terms (left t on more) env P = (r : Row) → Has
    (or_nulls (filter (λ r. list_all (holds (env ++ r ∷ [])) on) (db t))) r → EachMatch db terms more (env ++ r ∷ []) P
EachMatch db terms (counted most from test more) env P =
    AllByRecursion P (matches db terms (counted most from test more) env)
EachMatch db terms (made m more) env P = AllByRecursion P (matches db terms (made m more) env)
EachMatch db terms (folded from test all more) env P =
    AllByRecursion P (matches db terms (folded from test all more) env)
EachMatch db terms (first from test order shown more) env P =
    AllByRecursion P (matches db terms (first from test order shown more) env)

-- each row that the query shows of the database is good
abbrev pub AllShown : Trees → Row → Join → List Term → List Term → (Row → Type 0) → Type 0
AllShown db params from terms project good = EachMatch (overlay db []) terms from (params ∷ [])
    (λ env. good (eval_all project env))

-- what a test tells of a row
abbrev pub Tells : (Row → Type 0) → Row → Result Bool Fault → Type 0
Tells good row result = (b : Bool) × (result ≡ Ok b) × (IsTrue b ↔ good row)

-- what a test tells of a row that it notes where it is good; what it noted of others stays
abbrev pub Notes : {T : Type 0} → (Row → Type 0) → (T → Row → Type 0) → T → T → Row → Result Bool Fault → Type 0
Notes good noted old new row result = (b : Bool) × (result ≡ Ok b) × (IsTrue b ↔ good row)
    × (IsTrue b → noted new row) × ((other : Row) → noted old other → noted new other)

-- It commits nothing, and tells whether each row is good.
pub record TellsAll (sql : List ℕ) (params : Row) (good : Row → Type 0) (old new : State)
    (result : Result Bool Fault) : Type 0 where
  pub mode : old.in_transaction ≡ false → new.in_transaction ≡ false
  pub survives : OnlyAsks old.now.schema sql → CommitsNothing old new
  pub rests : HasCleanDisk new → OnlyAsks old.now.schema sql → Rests old new
  pub same : HasCleanDisk new → OnlyAsks old.now.schema sql → OnOk result (IsUnchanged old new)
  pub tells : HasCleanDisk new → (schema : Schema) → old.now.schema ≡ schema
      → (from : Join) (terms project : List Term) (order : List (Term × Key)) (names : List (List ℕ))
      → IsQuery schema sql from terms project order names
      → IfOk result (λ all. IsTrue all ↔ AllShown old.now.trees params from terms project good)
  pub faults : IfErr result IsStoreFault

-- whether there is something, where no fault was met
abbrev pub whether : {T : Type 0} → Result (Option T) Fault → Result Bool Fault
whether (Ok found) = Ok (is_some found)
whether (Err fault) = Err fault

-- It commits nothing, and tells whether each row is good; where each is, something is noted of each.
pub record NotesAll {T : Type 0} (sql : List ℕ) (params : Row) (good : Row → Type 0) (noted : T → Row → Type 0)
    (old new : State) (result : Result (Option T) Fault) : Type 0 where
  pub tests : TellsAll sql params good old new (whether result)
  pub notes : HasCleanDisk new → (schema : Schema) → old.now.schema ≡ schema
      → (from : Join) (terms project : List Term) (order : List (Term × Key)) (names : List (List ℕ))
      → IsQuery schema sql from terms project order names
      → IfOk result (λ found. IfSome found (λ it. AllShown old.now.trees params from terms project (noted it)))
