-- One CREATE after another.
use Rattle.std.proofs.Common.{◌≡◌, ℕ, Bool, true, false, [], Result, Ok, Err, OnOk, IsTrue, refl, sym, ap, true≢false}
use Rattle.std.proofs.Common.{◌∙◌, arith, List}
use Rattle.sqlite.specs.Schema.{Schema}
use Rattle.sqlite.specs.Table.{Table}
use Rattle.sql_forms.specs.Index.{Index}
use Rattle.sqlite.specs.Listing.{understood}
use Rattle.sqlite.specs.State.{State, ExecutesIn, Executes, ExecutesInside}
use Rattle.sql_forms.specs.Compute.{everything}
use Rattle.sql_forms.specs.Compiled.{Compiled}
use Rattle.sql_forms.specs.CompileError.{CompileError}
use Rattle.sql_forms.specs.Tables.{IsBare}
use Rattle.sql_forms.proofs.Creates.{IsCreate, creates, IsIndexing, indexes}
use Rattle.mm_definitions.specs.declared.answers.Fault.{Fault}
use Rattle.mm_store.specs.Stands.{Ground}
use Rattle.mm_store.specs.Statements.{CommitsNothing, IsRun}
use Rattle.mm_store.proofs.Quiet.{quiet_then}
use Rattle.mm_store.specs.Creates.{create_gpkg_spatial_ref_sys}
use Rattle.mm_store.specs.Tables.{schema}
use Rattle.mm_meta.specs.Opening.{IsBareAt, IsCreating, MakesNoneAgain}

-- a statement that was run, where each run of it makes one schema of the other
creating_by : (old new : State) (sql : List ℕ) (from to : Schema)
    → ((count : ℕ) → IsBare from old.now → Executes sql [] old new (Ok count) → IsBare to new.now)
    → (result : Result (Unit {0}) Fault) → IsRun old new sql [] result → IsCreating from old new to result
creating_by old new sql from to makes result run =
    record {
      survives = run.survives;
      made = λ clean ground bare. go ground bare result (run.ran clean bare.mode);
      faults = run.faults;
    }
  where
    go : (ground : Ground) → IsBareAt from old ground → (r : Result (Unit {0}) Fault)
        → OnOk r ((count : ℕ) × ExecutesInside 0 sql [] old new (Ok count))
        → OnOk r (IsTrue new.is_open × IsBareAt to new ground)
    go ground bare (Err e) ran = tt
    go ground bare (Ok u) ran =
        let up = ran.1.1.was_open in (
          ran.1.1.is_open,
          record {
            mode = ran.1.1.mode;
            back = λ _. let on = bare.back up in (ran.1.1.committed_is ∙ on.0, on.1);
            bare = λ _. makes ran.0 (bare.bare up) ran.1.0;
          },
        )

pub creates_one : (old new : State) (sql : List ℕ) (table : Table) (from to : Schema) → IsCreate from sql table to
    → (result : Result (Unit {0}) Fault) → IsRun old new sql [] result → IsCreating from old new to result
creates_one old new sql table from to it = creating_by old new sql from to
    (λ count bare ran. (creates old new from sql table to it count bare ran).0)

pub indexes_one : (old new : State) (sql : List ℕ) (at : ℕ) (table : Table) (index : Index) (from to : Schema)
    → IsIndexing from sql at table index to
    → to.tables ≡ from.tables → (result : Result (Unit {0}) Fault) → IsRun old new sql [] result
    → IsCreating from old new to result
indexes_one old new sql at table index from to it same = creating_by old new sql from to
    (λ count bare ran. (indexes old new from sql at table index to it same count bare ran).0)

pub creating_then : {T U : Type 0} (a b c : State) (from mid to : Schema) (t : T) (result : Result U Fault)
    → IsCreating from a b mid (Ok t)
    → IsCreating mid b c to result → IsCreating from a c to result
creating_then a b c from mid to t result one two = record {
  survives = quiet_then a b c one.survives two.survives;
  made = λ clean ground bare. two.made clean ground (one.made (omega (arith, two.survives.clean)) ground bare).1;
  faults = two.faults;
}

-- ---- where the tables stand already

abbrev first_text : List ℕ
first_text = create_gpkg_spatial_ref_sys

abbrev pub compiles : Result Compiled CompileError → Bool
compiles (Ok c) = true
compiles (Err e) = false

-- the first text is no statement where its table stands
first_refused : compiles (understood schema first_text) ≡ false
unfolding understood everything
first_refused = refl

not_again : (old new : State) (count : ℕ) → old.now.schema ≡ schema → Executes first_text [] old new (Ok count) → ⊥
unfolding ExecutesIn
not_again old new count has ran = true≢false (sym (ap compiles (ap (λ s. understood s first_text) (sym has) ∙ ran.1.is))
    ∙ first_refused)

pub none_again : (old new : State) (result : Result (Unit {0}) Fault) → IsRun old new first_text [] result
    → MakesNoneAgain old new result
none_again old new result run clean inside has = go result (run.ran clean inside)
  where
    go : (r : Result (Unit {0}) Fault) → OnOk r ((count : ℕ) × ExecutesInside 0 first_text [] old new (Ok count))
        → OnOk r ⊥
    go (Err e) ran = tt
    go (Ok u) ran = not_again old new ran.0 (has ran.1.1.was_open) ran.1.0

-- nor does any call that goes on behind it
pub none_again_then : {U : Type 0} (a b c : State) (result : Result U Fault) → MakesNoneAgain a b {T = Unit {0}} (Ok tt)
    → CommitsNothing b c
    → MakesNoneAgain a c result
none_again_then a b c result none quiet clean inside has = absurd (none (omega (arith, clean, quiet.clean)) inside has)
