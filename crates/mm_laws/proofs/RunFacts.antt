-- Runs of commands, and first parts of what they accepted.
use Rattle.std.proofs.Common.{◌≡◌, ℕ, zero, suc, List, [], ◌∷◌, take, Option, Some, None, refl, sym, ap, subst, ◌∙◌}
use Rattle.std.proofs.Common.{◌⊎◌, inl, inr}
use Rattle.mm_definitions.specs.Package.{Package}
use Rattle.mm_definitions.specs.Bounds.{Profile, IsMoment}
use Rattle.mm_definitions.specs.Stamp.{stamp}
use Rattle.mm_definitions.specs.Within.{IsWithin}
use Rattle.mm_definitions.specs.Rules.{Meets}
use Rattle.mm_definitions.specs.Step.{refusal, done, unless_refused, step}
use Rattle.mm_definitions.specs.Runs.{Call, run, if_ok, accepted, IsFirstPart}
use Rattle.mm_definitions.specs.Refusals.{Refusal}
use Rattle.mm_definitions.specs.declared.commands.Command.{Command}
use Rattle.mm_laws.specs.Laws.{AllWithin}
use Rattle.mm_laws.proofs.Steps.{run_keeps}

pub refused_same : (p : Package) (c : Command) (moment : ℕ) (r : Refusal) → refusal p c ≡ Some r → step p c moment ≡ p
refused_same p c moment r e = ap (λ v. unless_refused v (done p c (stamp moment)) p) e

if_ok_within : (profile : Profile) (v : Option Refusal) (c : Call) (cs : List Call) → IsWithin profile c.command
    × IsMoment c.moment
    → AllWithin profile cs → AllWithin profile (if_ok v c cs)
if_ok_within profile None c cs h more = (h, more)
if_ok_within profile (Some r) c cs h more = more

accepted_within : (profile : Profile) (calls : List Call) (p : Package) → AllWithin profile calls
    → AllWithin profile (accepted p calls)
accepted_within profile [] p h = tt
accepted_within profile (c ∷ cs) p h =
    if_ok_within profile (refusal p c.command) c (accepted (step p c.command c.moment) cs) h.0
    (accepted_within profile cs (step p c.command c.moment) h.1)

take_within : (profile : Profile) (count : ℕ) (calls : List Call) → AllWithin profile calls
    → AllWithin profile (take count calls)
take_within profile zero calls h = tt
take_within profile (suc n) [] h = tt
take_within profile (suc n) (c ∷ cs) h = (h.0, take_within profile n cs h.1)

-- every first part of a run meets the rules
pub first_part_meets : (profile : Profile) (calls : List Call) (p q : Package) (a : ℕ) → Meets profile p
    → AllWithin profile calls
    → IsFirstPart p calls a q → Meets profile q
first_part_meets profile calls p q a h within part =
    subst (Meets profile) (sym part.is)
    (run_keeps profile (take part.count (accepted p calls)) p h
    (take_within profile part.count (accepted p calls) (accepted_within profile calls p within)))

-- what was refused left no trace
pub run_accepted : (calls : List Call) (p : Package) → run p (accepted p calls) ≡ run p calls
run_accepted [] p = refl
run_accepted (c ∷ cs) p = by_answer p c cs (run_accepted cs (step p c.command c.moment)) (refusal p c.command) refl
  where
    by_answer : (p : Package) (c : Call) (cs : List Call)
        → run (step p c.command c.moment) (accepted (step p c.command c.moment) cs) ≡ run (step p c.command c.moment) cs
        → (v : Option Refusal) → refusal p c.command ≡ v → run p (if_ok v c (accepted (step p c.command c.moment) cs))
        ≡ run (step p c.command c.moment) cs
    by_answer p c cs rest None e = rest
    by_answer p c cs rest (Some r) e = ap (λ q. run q (accepted (step p c.command c.moment) cs))
        (sym (refused_same p c.command c.moment r e)) ∙ rest

none_taken : (count : ℕ) → take {A = Call} count [] ≡ []
none_taken zero = refl
none_taken (suc n) = refl

-- of one command a first part is all or nothing
pub one_or_none : (p q : Package) (c : Call) (a : ℕ) → IsFirstPart p (c ∷ []) a q → (q ≡ p)
    ⊎ (q ≡ step p c.command c.moment)
one_or_none p q c a part = by_answer (refusal p c.command) part.count part.is where
  by_answer : (v : Option Refusal) (count : ℕ) → q ≡ run p (take count (if_ok v c [])) → (q ≡ p)
      ⊎ (q ≡ step p c.command c.moment)
  by_answer None zero e = inl e
  by_answer None (suc n) e = inr (e ∙ ap (run (step p c.command c.moment)) (none_taken n))
  by_answer (Some r) count e = inl (e ∙ ap (run p) (none_taken count))
