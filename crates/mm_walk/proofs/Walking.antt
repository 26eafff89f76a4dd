-- A walk, step by step.
use Rattle.std.proofs.Common.{◌≡◌, ◌⊎◌, inl, inr, ℕ, Bool, true, false, List, [], ◌∷◌, ◌++◌, Result, Ok, Err, refl, ◌∙◌}
use Rattle.std.proofs.Common.{arith}
use Rattle.sqlite.specs.Order.{Row}
use Rattle.sqlite.specs.declared.error.Error.{Error}
use Rattle.sqlite.specs.State.{HasCleanDisk, IsUnchanged, Fails, FailsToQuery, Shown, Survives, CommitsShowing}
use Rattle.sqlite.proofs.StateLemmas.{survives_then}
use Rattle.sqlite.proofs.Callers.{unchanged_then, given_begin}
use Rattle.sql_forms.specs.Store.{Ghosts}
use Rattle.sqlite.specs.Held.{Held, state}
use Rattle.sqlite.specs.Given.{HasGiven, HasBegun}
use Rattle.mm_definitions.specs.declared.answers.Fault.{Fault}
use Rattle.mm_definitions.specs.Faults.{IsStoreFault}
use Rattle.mm_store.specs.Faults.{told_as}
use Rattle.mm_store.proofs.Asking.{told_fault}
use Rattle.mm_walk.specs.Walk.{OnlyAsks, Rests, IsFront, TakesRows, IsEndedWalk, IsWalk}
use Rattle.mm_walk.proofs.Given.{begun_asking, commits_nothing, begins_before, shown_before, refused_rests}
use Rattle.mm_walk.proofs.Given.{takes_one_more}

module _ {S V : Type 0} (g : Ghosts S) (takes : V → Row → V → Result Bool Fault → Type 0) (sql : List ℕ) (params : Row)
  where
    -- the query has given some rows, and the visitor took them
    pub record SoFar (old now : Held S) (v w : V) : Type 0 where
      pub mode : old.in_transaction ≡ false → now.in_transaction ≡ false
      pub survives : Survives (state g old) (state g now) (CommitsShowing sql params (state g old))
      pub visited : (rows : List Row) × TakesRows takes v rows w
      pub given : HasCleanDisk (state g now) → OnlyAsks old.schema sql
          → (rows : List Row) × HasGiven g sql params now rows × IsUnchanged (state g old) (state g now)
          × TakesRows takes v rows w

    pub begun_so_far : (old now : Held S) (v : V) → (old.in_transaction ≡ false → now.in_transaction ≡ false)
        → Survives (state g old) (state g now) (CommitsShowing sql params (state g old))
        → (HasCleanDisk (state g now) → HasBegun g sql params old now) → SoFar old now v v
    begun_so_far old now v mode survives begun = record {
      mode = mode;
      survives = survives;
      visited = ([], refl);
      given = λ clean asks. let b = begun_asking g sql params old now asks (begun clean) in ([], b.0, b.1, refl);
    }

    -- the query was refused
    pub refused : (old now : Held S) (v : V) (e : Error) (fault : Fault) → fault ≡ told_as e
        → (old.in_transaction ≡ false → now.in_transaction ≡ false)
        → Survives (state g old) (state g now) (CommitsShowing sql params (state g old))
        → (HasCleanDisk (state g now) → FailsToQuery sql params (state g old) (state g now) e)
        → IsWalk takes sql params (state g old) (state g now) v v (Err fault)
    refused old now v e fault is mode survives fails = record {
      mode = mode;
      survives = λ asks. commits_nothing sql params (state g old) (state g now) asks survives;
      walked = λ clean asks. inr (record {
        rests = refused_rests sql params (state g old) (state g now) e asks (fails clean);
        rows = [];
        begins = inl refl;
        taken = refl;
        told = told_fault e fault is;
      });
      visits = ([], inl refl);
      faults = inl (told_fault e fault is);
    }

    module _ (old now : Held S) (v w : V) (far : SoFar old now v w) where
      -- the rows that the query has given begin an answer
      fronts : (rows : List Row) → IsUnchanged (state g old) (state g now) → HasGiven g sql params now rows
          → IsFront sql params (state g old) rows
      fronts rows same gives = inr (
        same.0.was_open,
        begins_before sql params (state g old) (state g now) rows same
            (given_begin g sql params now rows gives),
      )

      -- too many rows to count
      pub endless : (fault : Fault) → IsStoreFault fault
          → IsWalk takes sql params (state g old) (state g now) v w (Err fault)
      endless fault told = record {
        mode = far.mode;
        survives = λ asks. commits_nothing sql params (state g old) (state g now) asks far.survives;
        walked = λ clean asks. let it = far.given clean asks in inr
            (record { rests = inl it.2; rows = it.0; begins = fronts it.0 it.2 it.1; taken = it.3; told = told });
        visits = (far.visited.0, inl far.visited.1);
        faults = inl told;
      }

      module _ (new : Held S) (mode : now.in_transaction ≡ false → new.in_transaction ≡ false)
          (quiet : Survives (state g now) (state g new) (λ _. ⊥)) where
        all_mode : old.in_transaction ≡ false → new.in_transaction ≡ false
        all_mode was = mode (far.mode was)

        both : Survives (state g old) (state g new) (CommitsShowing sql params (state g old))
        both = survives_then (state g old) (state g now) (state g new) _ _ (CommitsShowing sql params (state g old))
            (λ _ db h. h) (λ _ db none. absurd none) far.survives quiet

        all_quiet : OnlyAsks old.schema sql → Survives (state g old) (state g new) (λ _. ⊥)
        all_quiet asks = commits_nothing sql params (state g old) (state g new) asks both

        was_clean : HasCleanDisk (state g new) → HasCleanDisk (state g now)
        was_clean clean = omega (arith, quiet.clean)

        pub cut_off : (e : Error) (fault : Fault) → fault ≡ told_as e
            → (HasCleanDisk (state g new) → Fails (state g now) (state g new) ⊥ e
            ⊎ IsUnchanged (state g now) (state g new))
            → IsWalk takes sql params (state g old) (state g new) v w (Err fault)
        cut_off e fault is kept = record {
          mode = all_mode;
          survives = all_quiet;
          walked = λ clean asks. let it = far.given (was_clean clean) asks in
              inr (record {
                rests = rests it.2 (kept clean);
                rows = it.0;
                begins = fronts it.0 it.2 it.1;
                taken = it.3;
                told = told_fault e fault is;
              });
          visits = (far.visited.0, inl far.visited.1);
          faults = inl (told_fault e fault is);
        }
          where
            rests : IsUnchanged (state g old) (state g now) → Fails (state g now) (state g new) ⊥ e
                ⊎ IsUnchanged (state g now) (state g new)
                → Rests (state g old) (state g new)
            rests same (inr more) = inl (unchanged_then (state g old) (state g now) (state g new) same more)
            rests same (inl fails) =
                let undone = fails.3 in
                inr (record {
                  was_open = λ up. same.0.was_open;
                  undone = λ up. let u = undone.undone up in (u.0 ∙ same.0.committed_is, u.1 ∙ same.0.committed_is);
                  autocommit = undone.autocommit;
                  unmarked = undone.unmarked;
                  counts = record {
                    changes = undone.counts.changes ∙ same.1.changes;
                    last_rowid = undone.counts.last_rowid ∙ same.1.last_rowid;
                  };
                })

        module _ (same : HasCleanDisk (state g new) → IsUnchanged (state g now) (state g new)) where
          all_same : (clean : HasCleanDisk (state g new)) (asks : OnlyAsks old.schema sql)
              → IsUnchanged (state g old) (state g new)
          all_same clean asks = unchanged_then (state g old) (state g now) (state g new)
              (far.given (was_clean clean) asks).2 (same clean)

          pub ended : (HasCleanDisk (state g new) → (given : List Row) → HasGiven g sql params now given
              → Shown sql params (state g now) (state g new) given)
              → IsWalk takes sql params (state g old) (state g new) v w (Ok true)
          ended shows = record {
            mode = all_mode;
            survives = all_quiet;
            walked = λ clean asks.
                let it = far.given (was_clean clean) asks in
                record {
                  same = all_same clean asks;
                  rows = it.0;
                  shown =
                      shown_before sql params (state g old) (state g now) (state g new) it.0 asks it.2 (same clean)
                      (shows clean it.0 it.1);
                  taken = it.3;
                };
            visits = (far.visited.0, inl far.visited.1);
            faults = tt;
          }

          module _ (row : Row) (gives : HasCleanDisk (state g new) → (given : List Row)
              → HasGiven g sql params now given
              → HasGiven g sql params new (given ++ row ∷ [])) (u : V) where
            pub goes_on : takes w row u (Ok true) → SoFar old new v u
            goes_on step = record {
              mode = all_mode;
              survives = both;
              visited = (far.visited.0 ++ row ∷ [], takes_one_more takes v w u far.visited.0 row far.visited.1 step);
              given = λ clean asks.
                  let it = far.given (was_clean clean) asks in (
                    it.0 ++ row ∷ [],
                    gives clean it.0 it.1,
                    all_same clean asks,
                    takes_one_more takes v w u it.0 row it.3
                        step,
                  );
            }

            at_last : (result : Result Bool Fault) → takes w row u result → HasCleanDisk (state g new)
                → OnlyAsks old.schema sql
                → IsEndedWalk takes sql params (state g old) (state g new) v u result
            at_last result step clean asks =
                let it = far.given (was_clean clean) asks in
                let all = all_same clean asks in
                record {
                  same = all;
                  rows = it.0;
                  last = row;
                  begins = begins_before sql params (state g old) (state g new) (it.0 ++ row ∷ []) all
                      (given_begin g sql params new (it.0 ++ row ∷ []) (gives clean it.0 it.1));
                  before = w;
                  taken = it.3;
                  ends = step;
                }

            pub stopped : takes w row u (Ok false) → IsWalk takes sql params (state g old) (state g new) v u (Ok false)
            stopped step = record {
              mode = all_mode;
              survives = all_quiet;
              walked = at_last (Ok false) step;
              visits = (far.visited.0, inr (w, row, far.visited.1, step));
              faults = tt;
            }

            pub gave_up : (fault : Fault) → takes w row u (Err fault)
                → IsWalk takes sql params (state g old) (state g new) v u (Err fault)
            gave_up fault step = record {
              mode = all_mode;
              survives = all_quiet;
              walked = λ clean asks. inl (at_last (Err fault) step clean asks);
              visits = (far.visited.0, inr (w, row, far.visited.1, step));
              faults = inr (w, row, step);
            }
