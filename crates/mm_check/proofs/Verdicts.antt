-- All rules in turn.
use Rattle.std.proofs.Common.{◌≡◌, ◌↔◌, inl, inr, ℕ, ◌+◌, ◌<◌, ◌≤◌, Bool, true, false, Option, Some, None, Result, Ok}
use Rattle.std.proofs.Common.{Err, refl, sym, subst, arith}
use Rattle.std.specs.Prelude.{⊤}
use Rattle.sqlite.specs.State.{State, HasCleanDisk}
use Rattle.mm_definitions.specs.Bounds.{Profile}
use Rattle.mm_definitions.specs.Package.{Package}
use Rattle.mm_definitions.specs.Rules.{Meets, Limits}
use Rattle.mm_definitions.specs.declared.answers.Fault.{Fault}
use Rattle.mm_store.specs.Seen.{IsSeenAs}
use Rattle.mm_walk.specs.Check.{IsCheck}
use Rattle.mm_walk.proofs.Compose.{as_told, same_rule}
use Rattle.mm_walk.specs.InTurn.{HasPassed}
use Rattle.mm_check.specs.Verdict.{rule, Before, IsVerdict, IsVerifiedWhere}
use Rattle.mm_walk.proofs.InTurn.{none_below, one_more, first_passes, next_passes, still_shown, asked_alone, all_passed}

one_more_rule : (profile : Profile) (p : Package) (k : ℕ) → Before profile k p → rule profile k p
    → Before profile (k + 1) p
one_more_rule profile p k before here = (before.0, one_more (rule profile) p k before.1 here)

module _ (profile : Profile) (Known : Package → Type 0) (old new : State) where
  -- a check that told of its rule, as the whole one
  verified : (Rule : Package → Type 0) (b : Bool) (verdict : Option ℕ) → IsCheck profile old new Known Rule (Ok b)
      → (HasCleanDisk new → (p : Package) → IsSeenAs profile old p → Known p → IsVerdict profile p verdict)
      → IsVerifiedWhere profile Known old new (Ok verdict)
  verified Rule b verdict c says = record {
    mode = c.mode;
    survives = c.survives;
    is_open = c.is_open;
    seen = c.seen;
    settled = c.settled;
    says = says;
    faults = tt;
  }

  -- and one that failed
  fails : (Rule : Package → Type 0) (r : Result Bool Fault) (fault : Fault) → r ≡ Err fault
      → IsCheck profile old new Known Rule r → IsVerifiedWhere profile Known old new (Err fault)
  fails Rule r fault is h =
      let c = subst (IsCheck profile old new Known Rule) is h in
      record {
        mode = c.mode;
        survives = c.survives;
        is_open = λ clean. tt;
        seen = c.seen;
        settled = c.settled;
        says = λ clean p s known. tt;
        faults = c.faults;
      }

  pub limits_pass : (r : Result Bool Fault) {b : Bool} → r ≡ Ok b → b ≡ true
      → IsCheck profile old new Known (λ p. Limits profile p) r → HasPassed profile Known old new ⊤ (Before profile 1)
  unfolding rule
  limits_pass r is told h =
      first_passes profile Known old new ⊤ (Before profile 1) (λ p. Limits profile p)
      (λ p holds. (holds, none_below (rule profile) p)) r is told h

  pub limits_stop : (r : Result Bool Fault) {b : Bool} → r ≡ Ok b → b ≡ false
      → IsCheck profile old new Known (λ p. Limits profile p) r → IsVerifiedWhere profile Known old new (Ok (Some 16))
  unfolding rule
  limits_stop r {b} is told h =
      let c = as_told profile old new Known (λ p. Limits profile p) r b false is told h in
      verified (λ p. Limits profile p) false (Some 16) c (λ clean p s known. inl (
        refl,
        λ it.
            let e : false ≡ true = (c.says clean p s known).1 it in absurd (let f : false ≡ true = e in cc),
      ))

  pub limits_fail : (r : Result Bool Fault) (fault : Fault) → r ≡ Err fault
      → IsCheck profile old new Known (λ p. Limits profile p) r → IsVerifiedWhere profile Known old new (Err fault)
  limits_fail r fault is h = fails (λ p. Limits profile p) r fault is h

module _ (profile : Profile) (Known : Package → Type 0) (old mid new : State) (k : ℕ) (low : 1 ≤ k) (high : k < 16)
    (so_far : HasPassed profile Known old mid ⊤ (Before profile k)) where
  pub rule_passes : (r : Result Bool Fault) {b : Bool} → r ≡ Ok b → b ≡ true
      → IsCheck profile mid new (Before profile k) (rule profile k) r
      → HasPassed profile Known old new ⊤ (Before profile (k + 1))
  rule_passes r is told h =
      next_passes profile Known old mid new ⊤ (Before profile k) (Before profile k) (rule profile k)
      (λ p known before. before) so_far (Before profile (k + 1)) ⊤
      (λ p before here. one_more_rule profile p k before here) r is told h

  alone : (r : Result Bool Fault) → IsCheck profile mid new (Before profile k) (rule profile k) r
      → IsCheck profile old new Known (rule profile k) r
  alone r h = asked_alone profile Known old mid new ⊤ (Before profile k) (Before profile k) (rule profile k)
      (λ p known before. before) so_far r h

  pub rule_stops : (r : Result Bool Fault) {b : Bool} → r ≡ Ok b → b ≡ false
      → IsCheck profile mid new (Before profile k) (rule profile k) r
      → IsVerifiedWhere profile Known old new (Ok (Some k))
  rule_stops r {b} is told h =
      let c = as_told profile old new Known (rule profile k) r b false is told (alone r h) in
      verified profile Known old new (rule profile k) false (Some k) c (λ clean p s known.
      let before = still_shown profile Known old mid new ⊤ (Before profile k) (Before profile k) (rule profile k)
      (λ p known before. before) so_far r h clean p s known in
      inr (
        low,
        high,
        before,
        λ it.
            let e : false ≡ true = (c.says clean p s known).1 it in absurd (let f : false ≡ true = e in cc),
      ))

  pub rule_fails : (r : Result Bool Fault) (fault : Fault) → r ≡ Err fault
      → IsCheck profile mid new (Before profile k) (rule profile k) r
      → IsVerifiedWhere profile Known old new (Err fault)
  rule_fails r fault is h = fails profile Known old new (rule profile k) r fault is (alone r h)

each_meets : (profile : Profile) (p : Package) → Before profile 16 p → Meets profile p
unfolding rule
each_meets profile p t = record {
  q1 = t.1 1 (omega arith) (omega arith);
  q2 = t.1 2 (omega arith) (omega arith);
  q3 = t.1 3 (omega arith) (omega arith);
  q4 = t.1 4 (omega arith) (omega arith);
  q5 = t.1 5 (omega arith) (omega arith);
  q6 = t.1 6 (omega arith) (omega arith);
  q7 = t.1 7 (omega arith) (omega arith);
  q8 = t.1 8 (omega arith) (omega arith);
  q9 = t.1 9 (omega arith) (omega arith);
  q10 = t.1 10 (omega arith) (omega arith);
  q11 = t.1 11 (omega arith) (omega arith);
  q12 = t.1 12 (omega arith) (omega arith);
  q13 = t.1 13 (omega arith) (omega arith);
  q14 = t.1 14 (omega arith) (omega arith);
  q15 = t.1 15 (omega arith) (omega arith);
  q16 = t.0;
}

-- each has passed
pub all_pass : (profile : Profile) (Known : Package → Type 0) (old new : State) (k : ℕ) → k ≡ 16
    → HasPassed profile Known old new ⊤ (Before profile k) → IsVerifiedWhere profile Known old new (Ok None)
all_pass profile Known old new k is passed =
    let h = subst (λ n. HasPassed profile Known old new ⊤ (Before profile n)) is passed in
    let c = all_passed profile Known old new ⊤ (Before profile 16) (Before profile 16) tt
    (λ p. (λ before. before, λ before. before)) h in
    verified profile Known old new (Before profile 16) true None c
    (λ clean p s known. each_meets profile p (h.says clean p s known))

pub as_rule : (profile : Profile) (old new : State) (Known : Package → Type 0) (Rule : Package → Type 0) (k n : ℕ)
    → k ≡ n
    → ((p : Package) → Before profile n p → Known p) → ((p : Package) → Rule p ↔ rule profile n p)
    → (r : Result Bool Fault)
    → IsCheck profile old new Known Rule r
    → IsCheck profile old new (Before profile k) (rule profile k) r
as_rule profile old new Known Rule k n is knows same r h =
    subst (λ m. IsCheck profile old new (Before profile m) (rule profile m) r) (sym is)
    (same_rule profile old new Known (Before profile n) Rule (rule profile n) knows (λ p _. same p) r h)
