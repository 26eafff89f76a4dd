-- What the query of the profile's table tells.
use Rattle.std.proofs.Common.{◌≡◌, ◌≢◌, ◌⊎◌, inl, inr, ℤ, pos, true, false, true≢false, List, [], ◌∷◌, Option, None}
use Rattle.std.proofs.Common.{Result, Ok, Err, IsTrue, refl, sym, ap, subst, ◌∙◌, arith}
use Rattle.std.specs.Prelude.{if◌then◌else◌}
use Rattle.std.specs.List.Sorted.{IsPermutation}
use Rattle.std.proofs.lemmas.List.Sorted.{length_permutation}
use Rattle.sqlite.specs.declared.error.Error.{Error}
use Rattle.sqlite.specs.declared.types.Value.TheVariants.{Int}
use Rattle.sqlite.specs.Order.{Row, column}
use Rattle.sqlite.specs.Schema.{Schema}
use Rattle.sqlite.specs.Command.{Command}
use Rattle.sql_forms.specs.Returning.{Returning}
use Rattle.sql_forms.specs.Compiled.{Compiled}
use Rattle.sql_forms.specs.CompileError.{CompileError}
use Rattle.sql_forms.specs.CompileError.TheVariants.{NoSuchTable}
use Rattle.sql_forms.specs.Compile.{compiled}
use Rattle.sql_forms.specs.Lowering.{and_then}
use Rattle.sql_forms.specs.Scope.{Name}
use Rattle.sqlite.specs.Effect.{Database}
use Rattle.sqlite.specs.Clock.{timed}
use Rattle.sqlite.specs.Listing.{understood, listing_schema, reads_listing, if_select}
use Rattle.sql_forms.specs.Compute.{everything}
use Rattle.sqlite.specs.State.{State, HasCleanDisk, IsUnchanged, IsRolledBack, IsNotRun, FailsToQuery, FailsToShow}
use Rattle.sqlite.specs.State.{Shown, ShowsRows, Survives, CommitsShowing}
use Rattle.sqlite.proofs.StateLemmas.{survives_weaker}
use Rattle.sql_forms.proofs.Lists.{same_value, has_permuted}
use Rattle.sql_forms.proofs.Selects.{selects_all}
use Rattle.mm_store.specs.Compiled.{profile_rows}
use Rattle.mm_store.proofs.Selecting as statement
use Rattle.mm_definitions.proofs.Parts.{never_some}
use Rattle.mm_definitions.specs.Bounds.{current}
use Rattle.mm_definitions.specs.Package.{Package}
use Rattle.mm_definitions.specs.declared.answers.Open.{Open}
use Rattle.mm_definitions.specs.declared.answers.Open.TheVariants as opens
use Rattle.mm_store.specs.Stands.{ReadsAs}
use Rattle.mm_store.specs.Statements.{CommitsNothing}
use Rattle.mm_meta.proofs.Creating.{compiles}
use Rattle.mm_meta.proofs.Refusing.{stopped, never_refused}
use Rattle.mm_store.specs.Made.{no_schema}
use Rattle.mm_meta.specs.Opening.{IsBlank}
use Rattle.mm_meta.specs.Look.{stops, IsProfile, ShowsProfile, Judges, TellsError, AnswersLook, Agrees, FindsNone}
use Rattle.mm_meta.specs.Look.{IsLooked}

-- ---- The text is a query, whatever the schema.

none_planned : (r : Result Command CompileError) (formats : List Name) (make : List Name × (Command × Option Returning)
    → Compiled)
    → ((plan : List Name × (Command × Option Returning)) → (make plan).returning ≡ plan.1.1) → (c : Compiled)
    → and_then (and_then (and_then r (λ k. Ok (k, None))) (λ found. Ok (formats, found))) (λ plan. Ok (make plan))
    ≡ Ok c → c.returning ≡ None
none_planned (Ok k) formats make keeps c h = sym (ap (λ (x : Compiled). x.returning) (same_value h))
    ∙ keeps (formats, (k, None))
none_planned (Err e) formats make keeps c h = absurd cc

from_compiled : (schema : Schema) (c : Compiled) → compiled schema profile_rows ≡ Ok c → c.returning ≡ None
unfolding everything
from_compiled schema c h = none_planned _ _ _ (λ plan. refl) c h

never_listed : if_select (compiled listing_schema profile_rows) ≡ if_select (Err NoSuchTable)
unfolding everything listing_schema
never_listed = refl

returns_nothing : (schema : Schema) (c : Compiled) → understood schema profile_rows ≡ Ok c → c.returning ≡ None
unfolding understood
returns_nothing schema c = elim (reads_listing schema profile_rows) as
    (λ b. (if b then if_select (compiled listing_schema profile_rows) else compiled schema profile_rows) ≡ Ok c
    → c.returning ≡ None) [
      | true ↦ λ h. absurd (let e = sym never_listed ∙ h in cc)
      | false ↦ λ h. from_compiled schema c h
    ]

module _ (old new : State) where
  pub quiet : Survives old new (CommitsShowing profile_rows [] old) → CommitsNothing old new
  unfolding CommitsShowing
  quiet h = survives_weaker old new _ _
      (λ clean db may. never_some may.0.returning (returns_nothing old.now.schema may.0 may.1.is) may.2) h

  pub unchanged : (rows : List Row) → Shown profile_rows [] old new rows → IsUnchanged old new
  unfolding Shown
  unchanged rows h = (subst (ShowsRows old new profile_rows h.0 (timed [] h.0.formats h.1.now) rows)
      (returns_nothing old.now.schema h.0 h.1.is) h.2).3

  unchanged_still : IsUnchanged old new → IsUnchanged old old
  unchanged_still h = (
    record {
      was_open = h.0.was_open;
      is_open = h.0.was_open;
      now_is = refl;
      committed_is = refl;
      mode = refl;
    },
    record { changes = refl; last_rowid = refl },
    refl,
  )

  -- what it shows, it shows of the state before alone
  pub asked_still : (rows : List Row) → Shown profile_rows [] old new rows → Shown profile_rows [] old old rows
  unfolding Shown
  asked_still rows h =
      let none = returns_nothing old.now.schema h.0 h.1.is in
      let it = subst (ShowsRows old new profile_rows h.0 (timed [] h.0.formats h.1.now) rows) none h.2 in (
        h.0,
        h.1,
        subst (ShowsRows old old profile_rows h.0 (timed [] h.0.formats h.1.now) rows) (sym none)
            (it.0, it.1, it.2, unchanged_still it.3),
      )

  pub shows_profile : AnswersLook old new (Ok tt) → ShowsProfile current.version old
  shows_profile (inl it) = (it.0, asked_still it.0 it.1, it.3)
  shows_profile (inr it) = absurd it.2

-- ---- a database that stands for a package

alone : {X : Type 0} (x : X) (ys : List X) → IsPermutation (x ∷ []) ys → ys ≡ x ∷ []
alone x [] h = absurd (let e : 0 ≡ 1 = length_permutation (x ∷ []) [] h in cc)
alone x (y ∷ []) h = elim (has_permuted (x ∷ []) (y ∷ []) y h (inl refl))
    [ inl same ↦ ap (λ z. z ∷ []) same | inr none ↦ absurd none ]
alone x (y ∷ z ∷ ys) h = absurd (let e = length_permutation (x ∷ []) (y ∷ z ∷ ys) h in omega (arith, e))

module _ (old new : State) (version : ℤ) where
  abbrev shown : Row
  shown = Int (pos 1) ∷ Int version ∷ []

  rows_are : (p : Package) (rows : List Row) → (IsTrue old.is_open → ReadsAs version old.now p)
      → Shown profile_rows [] old new rows → rows ≡ shown ∷ []
  rows_are p rows reads h =
      let at = reads (unchanged old new rows h).0.was_open in
      let all = selects_all _ _ _ _ _ _ statement.profile_rows old new at.schema_is [] [] refl rows h in
      alone shown rows (rw at.stands.holds.profile at all.0)

  same_row : (row : Row) → shown ∷ [] ≡ row ∷ [] → shown ≡ row
  same_row row e = cc

  same_version : (other : ℤ) → IsProfile other (shown ∷ []) → other ≡ version
  same_version other it =
      let second : Int version ≡ Int other = ap (λ (r : Row). column r 1) (same_row it.0 it.1) ∙ it.3 in
      let e : version ≡ other = cc in sym e

  agreed : (result : Result (Unit {0}) Open) → Judges (shown ∷ []) result → Agrees version result
  agreed (Ok u) h = sym (same_version current.version h)
  agreed (Err (opens.Version other)) h = let same = same_version other h.0 in
      (same, subst (λ v. v ≢ current.version) same h.1)
  agreed (Err opens.BadProfile) h = h version (shown, refl, refl, refl)
  agreed (Err (opens.Fault fault)) h = tt
  agreed (Err opens.NoProfile) h = absurd h
  agreed (Err opens.BadBlobs) h = absurd h
  agreed (Err (opens.Rule rule)) h = absurd h

-- ---- a connection after the look is as it was, or was rolled back

refused_rests : (old new : State) (e : Error) → FailsToQuery profile_rows [] old new e → IsUnchanged old new
    ⊎ IsRolledBack old new
unfolding FailsToQuery IsNotRun
refused_rests old new e (inl (inl h)) = inl h.1
refused_rests old new e (inl (inr h)) = inr h.3
refused_rests old new e (inr h) =
    let shows = subst (FailsToShow old new profile_rows h.0 (timed [] h.0.formats h.1.now) e)
    (returns_nothing old.now.schema h.0 h.1.is) h.2 in
    inl shows.3

-- where the store did not fail, it is as it was
refused_as_was : (old new : State) (e : Error) → stops e ≡ false → FailsToQuery profile_rows [] old new e
    → IsUnchanged old new
unfolding FailsToQuery IsNotRun
refused_as_was old new e goes (inl (inl h)) = h.1
refused_as_was old new e goes (inl (inr h)) = absurd (stopped old new e goes h.0 h.1 h.2)
refused_as_was old new e goes (inr h) =
    let shows = subst (FailsToShow old new profile_rows h.0 (timed [] h.0.formats h.1.now) e)
    (returns_nothing old.now.schema h.0 h.1.is) h.2 in
    shows.3

-- ---- a database that has no table

unread : compiles (understood no_schema profile_rows) ≡ false
unfolding understood everything listing_schema
unread = refl

module _ (old new : State) (it : IsBlank old) where
  none_shown : (rows : List Row) → Shown profile_rows [] old new rows → ⊥
  unfolding Shown
  none_shown rows h = by_schema (it.schema_is (unchanged old new rows h).0.was_open) h
    where
      by_schema : old.now.schema ≡ no_schema → Shown profile_rows [] old new rows → ⊥
      by_schema is h = true≢false (sym (ap compiles (sym (ap (λ s. understood s profile_rows) is) ∙ h.1.is)) ∙ unread)

  none_told : (result : Result (Unit {0}) Open) → AnswersLook old new result → FindsNone old new result
  none_told result (inl h) = absurd (none_shown h.0 h.1)
  none_told (Err opens.NoProfile) (inr h) = refused_as_was old new h.0 h.2 h.1
  none_told (Err (opens.Fault fault)) (inr h) = tt
  none_told (Err (opens.Version version)) (inr h) = absurd h.2
  none_told (Err opens.BadProfile) (inr h) = absurd h.2
  none_told (Err opens.BadBlobs) (inr h) = absurd h.2
  none_told (Err (opens.Rule rule)) (inr h) = absurd h.2
  none_told (Ok u) (inr h) = absurd h.2

-- as it was, it has no table still
pub still_blank : (old new : State) → CommitsNothing old new → IsUnchanged old new → HasCleanDisk new → IsBlank old
    → IsBlank new
still_blank old new survives same clean it = record {
  mode = same.0.mode ∙ it.mode;
  schema_is = λ up. subst (λ (db : Database). db.schema ≡ no_schema) (sym same.0.now_is) (it.schema_is same.0.was_open);
  left = λ db may. elim (survives.crash clean db may) [ inl before ↦ it.left db before | inr none ↦ absurd none ];
}

untold : (version : ℤ) (e : Error) (result : Result (Unit {0}) Open) → (stops e ≡ false → ⊥) → TellsError e result
    → Agrees version result
untold version e (Ok u) stopped h = absurd h
untold version e (Err (opens.Version other)) stopped h = absurd h
untold version e (Err opens.BadProfile) stopped h = absurd h
untold version e (Err (opens.Fault fault)) stopped h = tt
untold version e (Err opens.NoProfile) stopped h = absurd (stopped h)
untold version e (Err opens.BadBlobs) stopped h = absurd h
untold version e (Err (opens.Rule rule)) stopped h = absurd h

module _ (old new : State) (h : Survives old new (CommitsShowing profile_rows [] old)) (result : Result (Unit {0}) Open)
  where
    pub judged : (rows : List Row) → (HasCleanDisk new → Shown profile_rows [] old new rows) → Judges rows result
        → IsLooked old new result
    judged rows shows judges = record {
      survives = quiet old new h;
      rests = λ clean. inl (unchanged old new rows (shows clean));
      answers = λ clean. inl (rows, shows clean, unchanged old new rows (shows clean), judges);
      agrees = λ clean version p reads. agreed old new version result
          (subst (λ rs. Judges rs result) (rows_are old new version p rows reads (shows clean)) judges);
      none = λ clean it. none_told old new it result
          (inl (rows, shows clean, unchanged old new rows (shows clean), judges));
    }

    pub refused : (e : Error) → (HasCleanDisk new → FailsToQuery profile_rows [] old new e) → TellsError e result
        → IsLooked old new result
    refused e fails tells = record {
      survives = quiet old new h;
      rests = λ clean. refused_rests old new e (fails clean);
      answers = λ clean. inr (e, fails clean, tells);
      agrees = λ clean version p reads. untold version e result
          (λ goes. never_refused old new e goes (λ up. (reads up).schema_is) (returns_nothing old.now.schema)
          (fails clean))
          tells;
      none = λ clean it. none_told old new it result (inr (e, fails clean, tells));
    }
