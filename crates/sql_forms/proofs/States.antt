-- What a statement inside a transaction leaves of a connection.
use Rattle.std.proofs.Common.{◌≡◌, ◌⊎◌, inl, inr, ℕ, List, false, Option, Some, None, Ok, Err, Result, IfOk, IfErr}
use Rattle.std.proofs.Common.{cond, IsTrue, sym, ap, subst, ◌∙◌}
use Rattle.sqlite.specs.declared.error.Error.{Error}
use Rattle.sqlite.specs.Order.{Row}
use Rattle.sqlite.specs.Schema.{Schema}
use Rattle.sqlite.specs.Command.{Command}
use Rattle.sqlite.specs.Clock.{timed}
use Rattle.sqlite_resolve.specs.declared.compiled.Compiled.{Compiled}
use Rattle.sqlite_schema.specs.declared.command.Returning.{Returning}
use Rattle.sqlite.specs.Effect.{Reads}
use Rattle.sqlite.specs.Listing.{understood, reads_listing}
use Rattle.sqlite.specs.State.{State, IsUnchanged, IsRolledBack, KeepsCommit, IsNotRun, FailsToQuery, FailsToShow}
use Rattle.sqlite.specs.State.{ShowsRows, Shown, ExecutesInside, IsTooLate}
use Rattle.sqlite.proofs.Callers.{IsPlain, command_of, reads_as}

module _ (old new : State) where
  pub unchanged_keeps : IsUnchanged old new → KeepsCommit old new
  unchanged_keeps h = record { was_open = λ _. h.0.was_open; committed = λ _. h.0.committed_is }

  pub rolled_back_keeps : IsRolledBack old new → KeepsCommit old new
  rolled_back_keeps h = record { was_open = h.was_open; committed = λ up. (h.undone up).1 }

  either_keeps : IsUnchanged old new ⊎ IsRolledBack old new → KeepsCommit old new
  either_keeps (inl same) = unchanged_keeps same
  either_keeps (inr undone) = rolled_back_keeps undone

  pub inside_keeps : (sql : List ℕ) (params : Row) (r : Result ℕ Error) → ExecutesInside 0 sql params old new r
      → KeepsCommit old new
  inside_keeps sql params (Ok count) h = record { was_open = λ _. h.1.was_open; committed = λ _. h.1.committed_is }
  inside_keeps sql params (Err e) (inl h) = either_keeps h.1
  inside_keeps sql params (Err e) (inr h) = unchanged_keeps h.2

  fails_to_show : (sql : List ℕ) (c : Compiled) (params : Row) (e : Error) (returning : Option Returning)
      → FailsToShow old new sql c params e returning → KeepsCommit old new
  fails_to_show sql c params e None h = unchanged_keeps h.3
  fails_to_show sql c params e (Some what) (inl h) = unchanged_keeps h.1
  fails_to_show sql c params e (Some what) (inr h) = rolled_back_keeps h.3

  pub query_keeps : (sql : List ℕ) (params : Row) (e : Error) → FailsToQuery sql params old new e
      ⊎ IsTooLate sql params old new e → KeepsCommit old new
  unfolding FailsToQuery IsNotRun
  query_keeps sql params e (inl (inl (inl h))) = unchanged_keeps h.1
  query_keeps sql params e (inl (inl (inr h))) = rolled_back_keeps h.3
  query_keeps sql params e (inl (inr h)) = fails_to_show sql h.0 _ e h.0.returning h.2
  query_keeps sql params e (inr h) = unchanged_keeps h.5

  shows_keeps : (inside : IsTrue old.in_transaction) (sql : List ℕ) (c : Compiled) (params : Row) (rows : List Row)
      (returning : Option Returning)
      → ShowsRows old new sql c params rows returning → KeepsCommit old new
  shows_keeps inside sql c params rows None h = unchanged_keeps h.3
  shows_keeps inside sql c params rows (Some what) h =
      record {
        was_open = λ _. h.1.shown.was_open;
        committed = λ _. h.1.shown.committed_is ∙ ap (λ b. cond b old.committed new.now) inside;
      }

  -- whether or not it fails
  pub query_all_keeps : {A : Type 0} (rows : A → List Row) (inside : IsTrue old.in_transaction) (sql : List ℕ)
      (params : Row) (r : Result A Error)
      → IfOk r (λ a. Shown sql params old new (rows a))
      → IfErr r (λ e. FailsToQuery sql params old new e ⊎ IsTooLate sql params old new e) → KeepsCommit old new
  unfolding Shown
  query_all_keeps rows inside sql params (Ok a) ok err = shows_keeps inside sql ok.0 _ (rows a) ok.0.returning ok.2
  query_all_keeps rows inside sql params (Err e) ok err = query_keeps sql params e err

  -- a plain query of a schema that is known
  module _ (sql : List ℕ) (params : Row) (schema : Schema) (has : old.now.schema ≡ schema) (command : Command)
      (is : command_of (understood schema sql) ≡ command)
      (plain : IsPlain (understood schema sql)) (unlisted : reads_listing schema sql ≡ false) (rows : List Row) where
    pub shows_as : Shown sql params old new rows → Reads command old.now params rows × IsUnchanged old new
    unfolding Shown
    shows_as h =
        let known = sym h.1.is ∙ ap (λ s. understood s sql) has in
        let bare = subst IsPlain (sym known) plain in
        (reads_as sql params old new schema has command is plain unlisted rows h, (rw bare.0 at h.2).3)

-- only an open connection shows rows
pub shown_open : (sql : List ℕ) (params : Row) (old new : State) (rows : List Row) → Shown sql params old new rows
    → IsTrue old.is_open
unfolding Shown
shown_open sql params old new rows h = go h.0.returning h.2
  where
    go : (r : Option Returning) → ShowsRows old new sql h.0 (timed params h.0.formats h.1.now) rows r
        → IsTrue old.is_open
    go None it = it.3.0.was_open
    go (Some what) it = it.1.shown.was_open
