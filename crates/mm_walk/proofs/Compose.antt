-- Checks one after another.
use Rattle.std.proofs.Common.{◌≡◌, ◌↔◌, Bool, true, false, Result, Ok, Err, refl, subst, arith}
use Rattle.sqlite.specs.State.{State, HasCleanDisk}
use Rattle.mm_definitions.specs.Bounds.{Profile}
use Rattle.mm_definitions.specs.Package.{Package}
use Rattle.mm_definitions.specs.declared.answers.Fault.{Fault}
use Rattle.mm_store.proofs.Quiet.{quiet_then}
use Rattle.mm_walk.specs.Check.{IsCheck}

module _ (profile : Profile) where
  -- the rule in other words, where more may be known
  pub same_rule : (old new : State) (Known More Rule Other : Package → Type 0) → ((p : Package) → More p → Known p)
      → ((p : Package) → More p → Rule p ↔ Other p) → (r : Result Bool Fault) → IsCheck profile old new Known Rule r
      → IsCheck profile old new More Other r
  same_rule old new Known More Rule Other knows same (Ok b) h = record {
    mode = h.mode;
    survives = h.survives;
    is_open = h.is_open;
    seen = h.seen;
    settled = h.settled;
    says = λ clean p s more. let t = h.says clean p s (knows p more) in let i =
        same p more in (λ e. i.0 (t.0 e), λ o. t.1 (i.1 o));
    faults = h.faults;
  }
  same_rule old new Known More Rule Other knows same (Err fault) h =
      record {
        mode = h.mode;
        survives = h.survives;
        is_open = λ clean. tt;
        seen = h.seen;
        settled = h.settled;
        says = λ clean p s more. tt;
        faults = h.faults;
      }

  -- a check whose answer was matched
  pub as_told : (old new : State) (Known Rule : Package → Type 0) (r : Result Bool Fault) (b told : Bool) → r ≡ Ok b
      → b ≡ told
      → IsCheck profile old new Known Rule r → IsCheck profile old new Known Rule (Ok told)
  as_told old new Known Rule r b told is same h = subst (λ x. IsCheck profile old new Known Rule (Ok x)) same
      (subst (IsCheck profile old new Known Rule) is h)

  then_check : (old mid new : State) (Known A B C : Package → Type 0) → ((p : Package) → (A p × B p) ↔ C p)
      → IsCheck profile old mid Known A (Ok true) → (s : Result Bool Fault) → IsCheck profile mid new Known B s
      → IsCheck profile old new Known C s
  then_check old mid new Known A B C same one (Ok b) two = record {
    mode = λ idle. two.mode (one.mode idle);
    survives = quiet_then old mid new one.survives two.survives;
    is_open = two.is_open;
    seen = λ clean p s. two.seen clean p (one.seen (omega (arith, two.survives.clean)) p s);
    settled = λ clean p s. two.settled clean p (one.settled (omega (arith, two.survives.clean)) p s);
    says = λ clean p s known.
        let early : HasCleanDisk mid = omega (arith, two.survives.clean) in
        let a = (one.says early p s known).0 refl in
        let t = two.says clean p (one.seen early p s) known in
        (λ e. (same p).0 (a, t.0 e), λ o. t.1 ((same p).1 o).1);
    faults = two.faults;
  }
  then_check old mid new Known A B C same one (Err fault) two = record {
    mode = λ idle. two.mode (one.mode idle);
    survives = quiet_then old mid new one.survives two.survives;
    is_open = two.is_open;
    seen = λ clean p s. two.seen clean p (one.seen (omega (arith, two.survives.clean)) p s);
    settled = λ clean p s. two.settled clean p (one.settled (omega (arith, two.survives.clean)) p s);
    says = λ clean p s known. tt;
    faults = two.faults;
  }

  -- the first holds, and the second decides
  pub goes_on : (old mid new : State) (Known A B C : Package → Type 0) → ((p : Package) → (A p × B p) ↔ C p)
      → (r s : Result Bool Fault) {b : Bool}
      → r ≡ Ok b → b ≡ true → IsCheck profile old mid Known A r → IsCheck profile mid new Known B s
      → IsCheck profile old new Known C s
  goes_on old mid new Known A B C same r s {b} is yes_b one two = then_check old mid new Known A B C same
      (as_told old mid Known A r b true is yes_b one) s two

  pub stops : (old new : State) (Known A B C : Package → Type 0) → ((p : Package) → (A p × B p) ↔ C p)
      → (r : Result Bool Fault) {b : Bool} → r ≡ Ok b
      → b ≡ false → IsCheck profile old new Known A r → IsCheck profile old new Known C (Ok false)
  stops old new Known A B C same r {b} is no_b one =
      let h = as_told old new Known A r b false is no_b one in
      record {
        mode = h.mode;
        survives = h.survives;
        is_open = h.is_open;
        seen = h.seen;
        settled = h.settled;
        says = λ clean p s known. let t = h.says clean p s known in
            (λ e. absurd (let f : false ≡ true = e in cc), λ o. t.1 ((same p).1 o).0);
        faults = h.faults;
      }

  pub gives_up : (old new : State) (Known More A C : Package → Type 0) (r : Result Bool Fault) (fault : Fault)
      → r ≡ Err fault
      → IsCheck profile old new Known A r → IsCheck profile old new More C (Err fault)
  gives_up old new Known More A C r fault is one = let h = subst (IsCheck profile old new Known A) is one in
      record {
        mode = h.mode;
        survives = h.survives;
        is_open = λ clean. tt;
        seen = h.seen;
        settled = h.settled;
        says = λ clean p s known. tt;
        faults = h.faults;
      }
