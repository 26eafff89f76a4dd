-- From one profile to another within a transaction.
use Rattle.std.specs.Prelude.{IsErrAnd}
use Rattle.std.proofs.lemmas.Result.{err_from_is_err_and}
use Rattle.sqlite.specs.Store.{Ghosts}
use Rattle.sqlite.specs.declared.transaction.Transaction.{Transaction}
use Rattle.std.proofs.Common.{◌≡◌, ℕ, List, Result, Ok, Err, OnOk, IsTrue, sym, subst, ◌∙◌, arith}
use Rattle.sqlite.specs.Order.{Row}
use Rattle.sqlite.specs.Tree.{Trees}
use Rattle.sqlite.specs.State.{State, ExecutesInside}
use Rattle.sql_forms.specs.Listing.{IsSound}
use Rattle.sql_forms.specs.Tables.{IsReady, Leaves}
use Rattle.mm_store.specs.Tables.{schema}
use Rattle.mm_definitions.specs.Bounds.{Profile}
use Rattle.mm_definitions.specs.Package.{Package}
use Rattle.mm_definitions.specs.declared.answers.Fault.{Fault}
use Rattle.mm_store.specs.Stands.{Holding, Ground, StandsInside}
use Rattle.mm_store.specs.Statements.{IsRun}
use Rattle.mm_store.specs.Handed.{ChangesWhere}
use Rattle.mm_store.proofs.Steps.{ready_inside, seen}
use Rattle.mm_store.proofs.Quiet.{quiet_then}
use Rattle.mm_migrate.specs.Moves.{IsScaling}
use Rattle.mm_migrate.specs.Handed.{Scales, Renumbers}

module _ (from to : Profile) (old new : State) (sql : List ℕ) (given : Row) (tables : Trees → Trees)
    (When : Package → Type 0) (next : Package → Package) (result : Result (Unit {0}) Fault)
    (run : IsRun old new sql given result)
    (leaves : (count : ℕ) → IsReady schema old → ExecutesInside 0 sql given old new (Ok count)
    → Leaves schema old new (tables (seen old)))
    (holds : (p : Package) → Holding from.version (seen old) p → When p → Holding to.version (tables (seen old))
    (next p)) where
  made_by : (ground : Ground) (p : Package) → StandsInside from old ground p → When p → (r : Result (Unit {0}) Fault)
      → OnOk r ((count : ℕ) × ExecutesInside 0 sql given old new (Ok count))
      → OnOk r (IsTrue new.is_open × StandsInside to new ground (next p))
  made_by ground p it when (Err e) ran = tt
  made_by ground p it when (Ok u) ran =
      let up = ran.1.1.was_open in
      let at = it.reads up in
      let left = leaves ran.0 (ready_inside from old ground p it up) ran.1 in
      let last = holds p at.stands.holds when in (
        left.is_open,
        record {
          mode = left.ready.inside;
          back = λ _. let on = it.back up in (left.committed ∙ on.0, on.1);
          reads = λ _. record {
            schema_is = left.ready.schema_is;
            stands = record {
              sound = ∣ subst (λ s. IsSound s new.now.trees) left.ready.schema_is left.sound ∣₁;
              rows = left.ready.rows;
              holds = subst (λ db. Holding to.version db (next p)) (sym left.tables_are) last;
            };
          };
        },
      )

  pub moves : IsScaling from to old new When next result
  moves = record {
    survives = run.survives;
    on = λ clean ground p it when. run.on clean it.mode ground it.back;
    made = λ clean ground p it when. made_by ground p it when result (run.ran clean it.mode);
    faults = run.faults;
  }

module _ {S T U : Type 0} {g : Ghosts S} {from to : Profile} {a b : Transaction S} {When : Package
    → Type 0} {first : Package → Package} {r : Result U Fault} where
  -- a change of the package, and then of its profile
  pub scales_then : {c : Transaction S} {x : T} → ChangesWhere g a b When first (Ok x) → Renumbers g b c to r
      → Scales g a c from to When first r
  scales_then h k = record {
    same = k.same ∙ h.same;
    moved = record {
      survives = quiet_then _ _ _ h.survives (k.moved from).survives;
      on = λ clean ground p it when. (k.moved from).on clean ground (first p)
          (h.comes (omega (arith, (k.moved from).survives.clean)) from ground p it when).1 tt;
      made = λ clean ground p it when. (k.moved from).made clean ground (first p)
          (h.comes (omega (arith, (k.moved from).survives.clean)) from ground p it when).1 tt;
      faults = (k.moved from).faults;
    };
  }

  pub scales_not : {next : Package → Package} {e : Fault} → ChangesWhere g a b {T = T} When first (Err e) → IsErrAnd r
      (λ f. f ≡ e) → Scales g a b from to When next r
  scales_not h is =
      let p = err_from_is_err_and r is in
      rw (p.1, p.2) (record {
        same = h.same;
        moved = record {
          survives = h.survives;
          on = λ clean ground p it when. h.on clean from ground p it when;
          made = λ clean ground p it when. tt;
          faults = h.faults;
        };
      })
