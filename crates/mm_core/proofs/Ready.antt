-- What it says of a session that it is ready, or is not.
use Rattle.std.proofs.Common.{◌≡◌, Bool, true, false, Result, Ok, Err, refl, sym, ap, ◌∙◌}
use Rattle.std.specs.Prelude.{⊤}
use Rattle.sqlite.specs.State.{State}
use Rattle.sqlite.specs.Store.{Ghosts}
use Rattle.mm_definitions.specs.declared.answers.Fault.{Fault}
use Rattle.mm_core.specs.Parts.{must_reopen, readiness}
use Rattle.mm_core.specs.Reads.{Reads}
use Rattle.mm_core.specs.declared.session.Session.{Session}

-- one that is ready works on
pub ready_works : (failed : Bool) → readiness failed ≡ Ok tt → failed ≡ false
ready_works true e = absurd (let clash : ◌≡◌ {A = Result ⊤ Fault} (Err (record { 0 = 92 })) (Ok tt) = e in cc)
ready_works false e = refl

same_err : {A : Type 0} {a b : Fault} → ◌≡◌ {A = Result A Fault} (Err a) (Err b) → a ≡ b
same_err {A = A} {a = a} e = ap fault e where
  fault : Result A Fault → Fault
  fault (Ok x) = a
  fault (Err b) = b

-- one that is not answers 92
pub unready_ended : (failed : Bool) (fault : Fault) → readiness failed ≡ Err fault → (failed ≡ true)
    × (fault ≡ record { 0 = 92 })
unready_ended true fault e = (refl, sym (same_err e))
unready_ended false fault e = absurd (let clash : ◌≡◌ {A = Result ⊤ Fault} (Ok tt) (Err fault) = e in cc)

-- a read that began with the test: the session is not touched
pub not_read : {S A : Type 0} {g : Ghosts S} (s : Session S g) (fault : Fault) (Shows : State → State → Type 0)
    → readiness (must_reopen s) ≡ Err fault
    → Reads {A = A} g s s (Err fault) Shows
not_read s fault Shows e =
    let was = unready_ended (must_reopen s) fault e in
    record {
      ended = λ _. (ap Err was.1, refl);
      same = refl;
      read = λ works. absurd (let clash : true ≡ false = sym was.0 ∙ works in cc);
    }
