-- A check by a walk.
use Rattle.std.proofs.Common.{◌≡◌, ◌↔◌, ℕ, List, Bool, IsTrue, Result, Ok, Err, IfOk, OnOk, subst}
use Rattle.sql_forms.specs.Key.{Key}
use Rattle.sqlite.specs.Order.{Row}
use Rattle.sql_forms.specs.Term.{Term}
use Rattle.sql_forms.specs.Query.{Join}
use Rattle.sqlite.specs.Tree.{Trees}
use Rattle.sqlite.specs.State.{State, HasCleanDisk, IsUnchanged}
use Rattle.mm_definitions.specs.Bounds.{Profile}
use Rattle.mm_definitions.specs.Package.{Package}
use Rattle.mm_definitions.specs.declared.answers.Fault.{Fault}
use Rattle.mm_store.specs.Stands.{StandsFor}
use Rattle.mm_store.specs.Seen.{IsSeenAs}
use Rattle.mm_store.proofs.Seen.{settled_still}
use Rattle.mm_walk.specs.RowTests.{IsQuery, AllShown, TellsAll}
use Rattle.mm_store.specs.Tables.{schema}
use Rattle.mm_walk.specs.Check.{IsCheck}
use Rattle.mm_walk.proofs.Quiet.{IsQuiet, only_asks}
use Rattle.mm_walk.proofs.Resting.{seen_still}
use Rattle.std.proofs.Common.{ℤ}

-- what is shown says the rule
abbrev pub Says : Row → Join → List Term → List Term → (Row → Type 0) → (Known Rule : Package → Type 0) → Type 0
Says params from terms project good Known Rule = (version : ℤ) (db : Trees) (p : Package) → StandsFor version db p
    → Known p → AllShown db params from terms project good ↔ Rule p

module _ (sql : List ℕ) (params : Row) (good : Row → Type 0) (from : Join) (terms project : List Term)
    (order : List (Term × Key)) (names : List (List ℕ)) (it : IsQuery schema sql from terms project order names)
    (quiet : IsQuiet sql)
    (Known Rule : Package → Type 0) (says : Says params from terms project good Known Rule) (profile : Profile)
    (old new : State) where
  told : (result : Result Bool Fault) → TellsAll sql params good old new result → HasCleanDisk new → (p : Package)
      → IsSeenAs profile old p → Known p
      → IfOk result (λ b. IsTrue b ↔ Rule p)
  told (Err fault) h clean p s known = tt
  told (Ok b) h clean p s known =
      let same = h.same clean (only_asks sql quiet old.now.schema) in
      let at = s.reads same.0.was_open in
      let t = h.tells clean schema at.schema_is from terms project order names it in
      let r = says profile.version old.now.trees p at.stands known in
      (λ e. r.0 (t.0 e), λ rule. t.1 (r.1 rule))

  still_open : (result : Result Bool Fault) → OnOk result (IsUnchanged old new) → OnOk result (IsTrue new.is_open)
  still_open (Ok b) same = same.0.is_open
  still_open (Err fault) same = tt

  pub checked : (result : Result Bool Fault) → TellsAll sql params good old new result
      → IsCheck profile old new Known Rule result
  checked result h =
      let asks = only_asks sql quiet old.now.schema in
      record {
        mode = h.mode;
        survives = h.survives asks;
        is_open = λ clean. still_open result (h.same clean asks);
        seen = λ clean p. seen_still profile old new p (h.rests clean asks);
        settled = λ clean p. settled_still profile old new p (h.survives asks) clean
            (seen_still profile old new p (h.rests clean asks));
        says = told result h;
        faults = h.faults;
      }

  -- the parameters as the call gives them
  pub checks : (given : Row) → given ≡ params → (result : Result Bool Fault) → TellsAll sql given good old new result
      → IsCheck profile old new Known Rule result
  checks given same result h = checked result (subst (λ p. TellsAll sql p good old new result) same h)
