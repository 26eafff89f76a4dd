-- Looks at a view, and what leaves it as it is. Each lemma speaks of words.
use Rattle.std.proofs.Common.{◌≡◌, ℕ, List, Option, Result, Ok, Err, ◌∙◌}
use Rattle.std.specs.Prelude.{⊤, IsErrAnd}
use Rattle.std.proofs.lemmas.Result.{err_from_is_err_and}
use Rattle.sqlite.specs.Held.{state}
use Rattle.sqlite.specs.Order.{Row}
use Rattle.sqlite.specs.Store.{Ghosts}
use Rattle.sqlite.specs.Term.{Term}
use Rattle.sqlite.specs.declared.transaction.Transaction.{Transaction}
use Rattle.sql_forms.specs.Forms.{first_of}
use Rattle.sql_forms.proofs.Selects.{IsSelect, selects_one}
use Rattle.mm_definitions.specs.Faults.{IsStoreFault}
use Rattle.mm_definitions.specs.declared.answers.Fault.{Fault}
use Rattle.mm_store.specs.Handed.{Asks}
use Rattle.mm_store.specs.Tables.{schema}
use Rattle.mm_blobs.specs.Handed.{Finds}
use Rattle.mm_blobs.specs.Views.{View, IsSeen}
use Rattle.mm_blobs.proofs.Moving.{looks, then_moves, move_failed, move_untold}
use Rattle.mm_blobs.proofs.Viewing.{finds_as}
use Rattle.mm_layout.specs.Handed.{LeavesView}

module _ {S : Type 0} {g : Ghosts S} {a b : Transaction S} where
  -- ---- a look that comes to a fault

  -- the exit of a `?`
  pub finds_failing : {T U : Type 0} {Says : View → T → Type 0} {More : View → U → Type 0} {e : Fault}
      {r : Result U Fault} → Finds g a b Says (Err e) → IsErrAnd r (λ f. f ≡ e) → Finds g a b More r
  finds_failing {e = e} {r = r} h is = record {
    same = h.same;
    found = λ profile spare. let p = err_from_is_err_and r is in rw (p.1, p.2)
        (move_failed _ _ e (h.found profile spare) (λ base v it. it));
  }

  -- what was found is told as a fault
  pub finds_untold : {T U : Type 0} {Says : View → T → Type 0} {More : View → U → Type 0} {x : T} {e : Fault}
      → Finds g a b Says (Ok x) → IsStoreFault e → Finds {T = U} g a b More (Err e)
  finds_untold {x = x} {e = e} h is = record {
    same = h.same;
    found = λ profile spare. move_untold _ _ x e (h.found profile spare) is;
  }

  -- ---- the view as it was

  -- one row is asked for
  pub asks_leaving : {T : Type 0} {sql : List ℕ} {given : Row} {tree : ℕ} {terms project : List Term}
      {names : List (List ℕ)} {Gives : T → Option Row → Type 0} {r : Result T Fault}
      → IsSelect schema sql tree (first_of tree terms project) names → Asks g a b sql given Gives r → (params : Row)
      → given ≡ params → LeavesView g a b r
  asks_leaving {sql = sql} {given = given} {tree = tree} {terms = terms} {project = project} {names = names}
      {Gives = Gives} {r = r} it h params same = record {
        same = h.same;
        found = λ profile spare.
            let old = state g a.conn.now in
            let new = state g b.conn.now in
            looks profile old new sql given spare Gives (λ v t. ⊤) r h.asked (λ t first ready shown gives.
            let read = selects_one schema sql tree terms project names it old new ready.schema_is params given same
            first shown in (read.0, λ v holds. tt));
      }

  -- whatever was answered
  pub leaves : {T U : Type 0} {x : T} {y : U} → LeavesView g a b (Ok x) → LeavesView g a b (Ok y)
  leaves h = finds_as h (λ v it. tt)

  -- one call after another
  pub leaves_then : {T U : Type 0} {c : Transaction S} {x : T} {r : Result U Fault} → LeavesView g a b (Ok x)
      → LeavesView g b c r → LeavesView g a c r
  leaves_then {c = c} {x = x} {r = r} h k = record {
    same = k.same ∙ h.same;
    found = λ profile spare.
        then_moves (λ base v y w. (w ≡ v) × IsSeen spare profile (state g c.conn.now) base w × ⊤) _ _ _ x r
        (h.found profile spare) (k.found profile spare) (λ base v w it mid. mid.1)
        (λ base v w z y it mid last. (last.0 ∙ mid.0, last.1, tt));
  }
