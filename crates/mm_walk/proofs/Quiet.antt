-- A text that is a query, whatever the schema.
use Rattle.std.proofs.Common.{◌≡◌, ℕ, Bool, true, false, List, Option, None, Result, Ok, Err, refl, sym, ap, subst, ◌∙◌}
use Rattle.std.specs.Prelude.{⊤, if◌then◌else◌}
use Rattle.sqlite.specs.Schema.{Schema}
use Rattle.sqlite.specs.Command.{Command}
use Rattle.sql_forms.specs.Returning.{Returning}
use Rattle.sqlite_syntax.specs.declared.statement.Parsed.{Parsed}
use Rattle.sql_forms.specs.Compiled.{Compiled}
use Rattle.sql_forms.specs.CompileError.{CompileError}
use Rattle.sql_forms.specs.CompileError.TheVariants.{NoSuchTable}
use Rattle.sql_forms.specs.Compile.{compiled, first, planned, meaning, returning, with_command}
use Rattle.sql_forms.specs.Lowering.{Checked, and_then}
use Rattle.sql_forms.specs.Scope.{Name}
use Rattle.sqlite.specs.Listing.{understood, listing_schema, reads_listing, if_select, is_select}
use Rattle.mm_walk.specs.Walk.{OnlyAsks}

-- the statement shows no rows of a write
abbrev pub ShowsNoWrite : Checked Parsed → Type 0
ShowsNoWrite (Ok p) = (schema : Schema) (base : ℕ) → returning schema base p.statement ≡ Ok None
ShowsNoWrite (Err e) = ⊤

abbrev pub IsQuiet : List ℕ → Type 0
IsQuiet sql = ShowsNoWrite (first sql)

none_planned : (k : Checked Command) (formats : List Name) (make : List Name × (Command × Option Returning) → Compiled)
    → ((plan : List Name × (Command × Option Returning)) → (make plan).returning ≡ plan.1.1)
    → (c : Compiled) (r : Checked (Option Returning))
    → r ≡ Ok None
    → and_then (and_then (and_then r (λ shown. and_then k (λ c. Ok (c, shown)))) (λ found. Ok (formats, found)))
    (λ plan. Ok (make plan)) ≡ Ok c
    → c.returning ≡ None
none_planned k formats make keeps c r is h = by_command k
    (subst (λ x. and_then (and_then (and_then x (λ shown. and_then k (λ c. Ok (c, shown))))
    (λ found. Ok (formats, found))) (λ plan. Ok (make plan)) ≡ Ok c) is h)
  where
    by_command : (k : Checked Command)
        → and_then (and_then (and_then k (λ (c : Command). Ok (c, None)))
        (λ (found : Command × Option Returning). Ok (formats, found))) (λ plan. Ok (make plan)) ≡ Ok c
        → c.returning ≡ None
    by_command (Ok command) h = let same : make (formats, (command, None)) ≡ c =
        cc in sym (ap (λ (x : Compiled). x.returning) same) ∙ keeps (formats, (command, None))
    by_command (Err e) h = absurd cc

compiled_asks : (sql : List ℕ) → IsQuiet sql → (schema : Schema) (c : Compiled) → compiled schema sql ≡ Ok c
    → c.returning ≡ None
unfolding compiled planned meaning
compiled_asks sql quiet schema c h = by_text (first sql) quiet h
  where
    by_text : (r : Checked Parsed) → ShowsNoWrite r
        → and_then r (λ p. and_then (planned schema p) (λ plan. Ok (with_command p plan))) ≡ Ok c
        → c.returning ≡ None
    by_text (Ok p) none h = none_planned _ _ (with_command p) (λ plan. refl) c _ (none schema _) h
    by_text (Err e) none h = absurd cc

was_compiled : (r : Result Compiled CompileError) (c : Compiled) → if_select r ≡ Ok c → r ≡ Ok c
was_compiled (Err e) c h = absurd cc
was_compiled (Ok d) c h = by_kind (is_select d.command) h
  where
    by_kind : (b : Bool) → ◌≡◌ {A = Result Compiled CompileError} (if b then Ok d else Err NoSuchTable) (Ok c)
        → ◌≡◌ {A = Result Compiled CompileError} (Ok d) (Ok c)
    by_kind true h = h
    by_kind false h = absurd cc

pub only_asks : (sql : List ℕ) → IsQuiet sql → (schema : Schema) → OnlyAsks schema sql
unfolding understood
only_asks sql quiet schema c = elim (reads_listing schema sql) as
    (λ b. (if b then if_select (compiled listing_schema sql) else compiled schema sql) ≡ Ok c → c.returning ≡ None) [
      | true ↦ λ h. compiled_asks sql quiet listing_schema c (was_compiled (compiled listing_schema sql) c h)
      | false ↦ λ h. compiled_asks sql quiet schema c h
    ]
