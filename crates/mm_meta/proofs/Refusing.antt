-- On a database that stands for a package the query of the profile's table is refused by nothing but memory, the disk
-- or a limit on steps.
use Rattle.std.proofs.Common.{◌≡◌, inl, inr, ℕ, true, false, List, [], ◌∷◌, length, None, IsTrue, Result, Ok, Err, refl}
use Rattle.std.proofs.Common.{sym, ap, subst, ◌∙◌, true≢false, arith}
use Rattle.sqlite.specs.declared.error.Error.{Error}
use Rattle.sql_forms.specs.StoreError.{StoreError}
use Rattle.sql_forms.specs.StoreError.TheVariants.{OutOfMemory, Io, Corrupt, Full, Broken, Unstorable}
use Rattle.sqlite.specs.Term.{col}
use Rattle.sqlite.specs.Effect.{RefusesQuery, RefusesToRead}
use Rattle.sqlite.specs.Clock.{timed}
use Rattle.sqlite.specs.Listing.{understood, reads_listing, IsSourceOf}
use Rattle.sql_forms.specs.Compiled.{Compiled}
use Rattle.sql_forms.specs.CompileError.{CompileError}
use Rattle.sql_forms.specs.Compute.{everything}
use Rattle.sqlite.specs.Program.{overlay}
use Rattle.sqlite_typing.specs.Types.{accepts_program}
use Rattle.sql_forms.proofs.QueryLemmas.{no_fold_overflows}
use Rattle.sqlite.specs.State.{State, FailsToQuery, FailsToShow, IsNotRun, IsNoStatement, IsStatement, HasCause}
use Rattle.sqlite.specs.State.{store_error}
use Rattle.sqlite.proofs.Callers.{IsPlain, command_of}
use Rattle.sql_forms.specs.Forms.{all_of, alone}
use Rattle.mm_store.specs.Tables.{schema}
use Rattle.mm_store.specs.Compiled.{profile_rows}
use Rattle.mm_store.proofs.Selecting as statement
use Rattle.mm_meta.specs.Look.{stops}

-- ---- what the text compiles to

abbrev tail_of : Result Compiled CompileError → ℕ
tail_of (Ok c) = c.tail
tail_of (Err e) = 0

abbrev names_of : Result Compiled CompileError → List (List ℕ)
names_of (Ok c) = c.names
names_of (Err e) = []

tail_is : tail_of (understood schema profile_rows) ≡ length profile_rows
unfolding understood everything
tail_is = refl

names_are : names_of (understood schema profile_rows) ≡ []
unfolding understood everything
names_are = refl

accepted : accepts_program schema [] (all_of 12 [] (col 1 0 ∷ col 1 2 ∷ [])) [] ≡ true
unfolding everything
accepted = refl

module _ (old new : State) (e : Error) (goes : stops e ≡ false) where
  pub stopped : (cause : StoreError) → e ≡ store_error cause → HasCause old new ⊥ cause → ⊥
  stopped OutOfMemory is has_cause = true≢false (sym (ap stops is) ∙ goes)
  stopped Io is has_cause = true≢false (sym (ap stops is) ∙ goes)
  stopped Corrupt is has_cause = true≢false (sym (ap stops is) ∙ goes)
  stopped Full is has_cause = true≢false (sym (ap stops is) ∙ goes)
  stopped Broken is has_cause = true≢false (sym (ap stops is) ∙ goes)
  stopped Unstorable is has_cause = has_cause

  module _ (has : old.now.schema ≡ schema) where
    known : (r : Result Compiled CompileError) → understood old.now.schema profile_rows ≡ r
        → understood schema profile_rows ≡ r
    known r is = sym (ap (λ s. understood s profile_rows) has) ∙ is

    is_read : IsNoStatement old profile_rows [] e → ⊥
    is_read (inl h) = let c = sym statement.profile_rows.compiled ∙ ap command_of (known (Err h.0) h.1) in cc
    is_read (inr (c, is, inl long)) =
        let tail : c.tail ≡ length profile_rows = sym (ap tail_of (known (Ok c) is)) ∙ tail_is in
        long.0 (omega (arith, tail))
    is_read (inr (c, is, inr (inl wrong))) = wrong.0 (sym (ap length (sym (ap names_of (known (Ok c) is)) ∙ names_are)))
    is_read (inr (c, is, inr (inr late))) = late.0 (subst IsPlain (known (Ok c) is) statement.profile_rows.plain).1

    asked : RefusesQuery old.step_limit old.now (alone (all_of 12 [] (col 1 0 ∷ col 1 2 ∷ []))) [] e → ⊥
    asked (inl mistyped) = true≢false
        (sym accepted ∙ subst (λ s. accepts_program s [] (all_of 12 [] (col 1 0 ∷ col 1 2 ∷ [])) [] ≡ false) has
        mistyped.1)
    asked (inr (inl (is, inl grouped))) = grouped
    asked (inr (inl (is, inr folded))) = no_fold_overflows (overlay old.now.trees [])
        (all_of 12 [] (col 1 0 ∷ col 1 2 ∷ [])).from ([] ∷ []) refl folded
    asked (inr (inr late)) = true≢false (sym (ap stops late.0) ∙ goes)

    shown_of : (c : Compiled) (it : IsStatement old profile_rows [] c)
        → RefusesToRead old.step_limit c.command old.now (timed [] c.formats it.now) e → ⊥
    shown_of c it refuses =
        let plain : IsPlain (Ok c) = subst IsPlain (known (Ok c) it.is) statement.profile_rows.plain in
        let command = sym (ap command_of (known (Ok c) it.is)) ∙ statement.profile_rows.compiled in
        let refused = subst (λ k. RefusesToRead old.step_limit k old.now (timed [] c.formats it.now) e) command
        refuses in
        asked (subst (λ formats. RefusesQuery old.step_limit old.now (alone (all_of 12 [] (col 1 0 ∷ col 1 2 ∷ [])))
        (timed [] formats it.now) e) plain.1 refused)

  module _ (has : IsTrue old.is_open → old.now.schema ≡ schema)
      (quiet : (c : Compiled) → understood old.now.schema profile_rows ≡ Ok c → c.returning ≡ None) where
    pub never_refused : FailsToQuery profile_rows [] old new e → ⊥
    unfolding FailsToQuery IsNotRun
    never_refused (inl (inl unread)) = is_read (has unread.1.0.was_open) unread.0
    never_refused (inl (inr fails)) = stopped fails.0 fails.1 fails.2
    never_refused (inr (c, it, shows)) =
        let shown = subst (FailsToShow old new profile_rows c (timed [] c.formats it.now) e) (quiet c it.is) shows in
        let is = has shown.3.0.was_open in
        let source : shown.0 ≡ old.now = subst (λ b. IsSourceOf b old.now shown.0)
        (ap (λ s. reads_listing s profile_rows) is ∙ statement.profile_rows.unlisted) shown.1 in
        shown_of is c it (subst (λ db. RefusesToRead old.step_limit c.command db (timed [] c.formats it.now) e) source
        shown.2)
