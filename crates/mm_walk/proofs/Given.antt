-- What the rows so far are of the connection as it was.
use Rattle.std.proofs.Common.{◌≡◌, inl, inr, ℕ, Bool, true, List, [], ◌∷◌, ◌++◌, None, Result, Ok, Err, refl, sym}
use Rattle.std.proofs.Common.{subst}
use Rattle.sqlite.specs.Order.{Row}
use Rattle.sqlite.specs.Effect.{Database}
use Rattle.sqlite.specs.Clock.{timed}
use Rattle.sqlite.specs.Listing.{understood, reads_listing, IsSourceOf}
use Rattle.sqlite.specs.State.{State, IsUnchanged, IsStatement, Shown, ShowsRows, Begins, IsNotRun, FailsToQuery}
use Rattle.sqlite.specs.State.{FailsToShow, Survives, CommitsShowing}
use Rattle.sqlite.specs.declared.error.Error.{Error}
use Rattle.sqlite.proofs.StateLemmas.{survives_weaker}
use Rattle.sqlite.proofs.Callers.{unchanged_then}
use Rattle.sql_forms.specs.Store.{Ghosts}
use Rattle.sql_forms.specs.Compiled.{Compiled}
use Rattle.sql_forms.specs.CompileError.{CompileError}
use Rattle.sqlite.specs.Held.{Held, state}
use Rattle.sqlite.specs.Given.{Returns, HasGiven, HasBegun}
use Rattle.mm_definitions.proofs.Parts.{never_some}
use Rattle.mm_definitions.specs.declared.answers.Fault.{Fault}
use Rattle.mm_store.specs.Statements.{CommitsNothing}
use Rattle.mm_walk.specs.Walk.{OnlyAsks, Rests, TakesRows}

returns_none : (r : Result Compiled CompileError) → ((c : Compiled) → r ≡ Ok c → c.returning ≡ None) → Returns r → ⊥
returns_none (Ok c) asks h = never_some c.returning (asks c refl) h
returns_none (Err e) asks h = h

pub begun_asking : {S : Type 0} (g : Ghosts S) (sql : List ℕ) (params : Row) (old new : Held S)
    → OnlyAsks old.schema sql
    → HasBegun g sql params old new → HasGiven g sql params new [] × IsUnchanged (state g old) (state g new)
begun_asking g sql params old new asks (inl h) = h
begun_asking g sql params old new asks (inr h) = absurd (returns_none _ asks h.0)

pub commits_nothing : (sql : List ℕ) (params : Row) (old new : State) → OnlyAsks old.now.schema sql
    → Survives old new (CommitsShowing sql params old)
    → CommitsNothing old new
unfolding CommitsShowing
commits_nothing sql params old new asks h = survives_weaker old new _ _
    (λ clean db may. never_some may.0.returning (asks may.0 may.1.is) may.2) h

module _ (sql : List ℕ) (params : Row) where
  -- the same statement of a connection that shows the same
  stated : (old now : State) → IsUnchanged old now → (c : Compiled) → IsStatement now sql params c
      → IsStatement old sql params c
  stated old now same c it = record {
    is = subst (λ (d : Database). understood d.schema sql ≡ Ok c) same.0.now_is it.is;
    whole = it.whole;
    given = it.given;
    now = it.now;
  }

  sourced : (old now : State) → IsUnchanged old now → (db : Database)
      → IsSourceOf (reads_listing now.now.schema sql) now.now db
      → IsSourceOf (reads_listing old.now.schema sql) old.now db
  sourced old now same db h = subst (λ (d : Database). IsSourceOf (reads_listing d.schema sql) d db) same.0.now_is h

  pub begins_before : (old now : State) (rows : List Row) → IsUnchanged old now → Begins sql params now rows
      → Begins sql params old rows
  unfolding Begins stated
  begins_before old now rows same h = (h.0, stated old now same h.0 h.1, h.2, h.3, sourced old now same h.3 h.4, h.5)

  pub shown_before : (old now new : State) (rows : List Row) → OnlyAsks old.now.schema sql → IsUnchanged old now
      → IsUnchanged now new
      → Shown sql params now new rows → Shown sql params old new rows
  unfolding Shown stated
  shown_before old now new rows asks same after h =
      let it = stated old now same h.0 h.1 in
      let none = asks h.0 it.is in
      let full = timed params h.0.formats h.1.now in
      let shows = subst (ShowsRows now new sql h.0 full rows) none h.2 in (
        h.0,
        it,
        subst (ShowsRows old new sql h.0 full rows) (sym none)
            (shows.0, sourced old now same shows.0 shows.1, shows.2, unchanged_then old now new same after),
      )

  pub refused_rests : (old new : State) (e : Error) → OnlyAsks old.now.schema sql → FailsToQuery sql params old new e
      → Rests old new
  unfolding FailsToQuery IsNotRun
  refused_rests old new e asks (inl (inl h)) = inl h.1
  refused_rests old new e asks (inl (inr h)) = inr h.3
  refused_rests old new e asks (inr h) =
      let shows = subst (FailsToShow old new sql h.0 (timed params h.0.formats h.1.now) e) (asks h.0 h.1.is) h.2 in
      inl shows.3

module _ {V : Type 0} (takes : V → Row → V → Result Bool Fault → Type 0) where
  pub takes_one_more : (v u w : V) (rows : List Row) (row : Row) → TakesRows takes v rows u → takes u row w (Ok true)
      → TakesRows takes v (rows ++ row ∷ []) w
  takes_one_more v u w [] row is step = (w, subst (λ x. takes x row w (Ok true)) (sym is) step, refl)
  takes_one_more v u w (r ∷ rows) row (x, first, more) step = (x, first, takes_one_more x u w rows row more step)
