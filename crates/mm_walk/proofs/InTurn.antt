-- Checks in turn.
use Rattle.std.proofs.Common.{◌≡◌, ◌↔◌, inl, inr, ℕ, ◌+◌, ◌==◌, Bool, true, false, Result, Ok, refl, subst, arith}
use Rattle.std.proofs.lemmas.Bool.{cases_Bool}
use Rattle.std.proofs.lemmas.Bool.Decides.{nat_tests}
use Rattle.sqlite.specs.State.{State, HasCleanDisk}
use Rattle.mm_definitions.specs.Bounds.{Profile}
use Rattle.mm_definitions.specs.Package.{Package}
use Rattle.mm_definitions.specs.declared.answers.Fault.{Fault}
use Rattle.mm_blobs.proofs.Releasing.{commits_nothing}
use Rattle.mm_store.proofs.Quiet.{quiet_then}
use Rattle.mm_store.specs.Seen.{IsSeenAs}
use Rattle.mm_walk.specs.Check.{IsCheck}
use Rattle.mm_walk.proofs.Compose.{as_told}
use Rattle.mm_walk.specs.InTurn.{chosen, HoldsBelow, HasPassed}

pub either_holds : (b : Bool) (A B : Type 0) → A → B → chosen b A B
either_holds true A B a b = a
either_holds false A B a b = b

pub none_below : (family : ℕ → Package → Type 0) (p : Package) → HoldsBelow family 1 p
none_below family p = λ j from to. absurd (omega (arith, from, to))

pub one_more : (family : ℕ → Package → Type 0) (p : Package) (k : ℕ) → HoldsBelow family k p → family k p
    → HoldsBelow family (k + 1) p
one_more family p k below here = λ j from to. elim (cases_Bool (j == k)) [
  | inl same ↦ subst (λ n. family n p) (let e : k ≡ j = (let f = same in grind (arith, nat_tests)) in e) here
  | inr other ↦ below j from (let f = other in grind (arith, nat_tests))
]

module _ (profile : Profile) (Known : Package → Type 0) where
  -- before the first
  pub none_asked : (now : State) (Asked : Type 0) (Shown : Package → Type 0) → (Asked → ⊥) → ((p : Package) → Shown p)
      → HasPassed profile Known now now Asked Shown
  none_asked now Asked Shown none shown = record {
    mode = λ idle. idle;
    survives = commits_nothing now;
    is_open = λ clean asked. absurd (none asked);
    seen = λ clean p s. s;
    settled = λ clean p s. s;
    says = λ clean p s known. shown p;
  }

  -- after the last
  pub all_passed : (old new : State) (Asked : Type 0) (Shown Rule : Package → Type 0) → Asked
      → ((p : Package) → Shown p ↔ Rule p) → HasPassed profile Known old new Asked Shown
      → IsCheck profile old new Known Rule (Ok true)
  all_passed old new Asked Shown Rule asked same h = record {
    mode = h.mode;
    survives = h.survives;
    is_open = λ clean. h.is_open clean asked;
    seen = h.seen;
    settled = h.settled;
    says = λ clean p s known. (λ _. (same p).0 (h.says clean p s known), λ _. refl);
    faults = tt;
  }

  -- the first one passes
  pub first_passes : (old new : State) (Asked : Type 0) (Shown Rule : Package → Type 0)
      → ((p : Package) → Rule p → Shown p) → (r : Result Bool Fault) {b : Bool} → r ≡ Ok b → b ≡ true
      → IsCheck profile old new Known Rule r → HasPassed profile Known old new Asked Shown
  first_passes old new Asked Shown Rule shows r {b} is told h =
      let c = as_told profile old new Known Rule r b true is told h in
      record {
        mode = c.mode;
        survives = c.survives;
        is_open = λ clean asked. c.is_open clean;
        seen = c.seen;
        settled = c.settled;
        says = λ clean p s known. shows p ((c.says clean p s known).0 refl);
      }

  module _ (old mid new : State) (Asked : Type 0) (Shown Next Rule : Package → Type 0)
      (knows : (p : Package) → Known p → Shown p → Next p) (so_far : HasPassed profile Known old mid Asked Shown) where
    -- what has been shown so far still is, after the next check
    pub still_shown : (r : Result Bool Fault) → IsCheck profile mid new Next Rule r → HasCleanDisk new → (p : Package)
        → IsSeenAs profile old p → Known p → Shown p
    still_shown r h clean p s known = so_far.says (omega (arith, h.survives.clean)) p s known

    -- the next check, as one that is asked alone
    pub asked_alone : (r : Result Bool Fault) → IsCheck profile mid new Next Rule r
        → IsCheck profile old new Known Rule r
    asked_alone r h = record {
      mode = λ idle. h.mode (so_far.mode idle);
      survives = quiet_then old mid new so_far.survives h.survives;
      is_open = h.is_open;
      seen = λ clean p s. h.seen clean p (so_far.seen (omega (arith, h.survives.clean)) p s);
      settled = λ clean p s. h.settled clean p (so_far.settled (omega (arith, h.survives.clean)) p s);
      says = λ clean p s known.
          let early : HasCleanDisk mid = omega (arith, h.survives.clean) in
          h.says clean p (so_far.seen early p s) (knows p known (so_far.says early p s known));
      faults = h.faults;
    }

    -- the next one passes
    pub next_passes : (More : Package → Type 0) (Now : Type 0) → ((p : Package) → Shown p → Rule p → More p)
        → (r : Result Bool Fault) {b : Bool} → r ≡ Ok b → b ≡ true → IsCheck profile mid new Next Rule r
        → HasPassed profile Known old new Now More
    next_passes More Now shows r {b} is told h =
        let c = as_told profile old new Known Rule r b true is told (asked_alone r h) in
        record {
          mode = c.mode;
          survives = c.survives;
          is_open = λ clean now. c.is_open clean;
          seen = c.seen;
          settled = c.settled;
          says = λ clean p s known. shows p (still_shown r h clean p s known) ((c.says clean p s known).0 refl);
        }
