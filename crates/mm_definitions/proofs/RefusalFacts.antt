-- For which number a command is refused, from its reasons.
use Rattle.std.proofs.Common.{◌≡◌, ℕ, Bool, true, false, cond, ◌==◌, Option, Some, None, refl, sym, ap, ◌∙◌}
use Rattle.mm_definitions.specs.Step.{refusal_of}
use Rattle.mm_definitions.specs.Editions.{PieceRefusal}
use Rattle.mm_definitions.specs.Refusals.{Refusal, own_number, reason_of}
use Rattle.mm_definitions.proofs.Parts.{same_some}

abbrev pub refused : ℕ → Refusal
refused n = record { number = n; piece = None }

no_piece : (b : Bool) → ◌≡◌ {A = Option PieceRefusal} (cond b None None) None
no_piece true = refl
no_piece false = refl

pub refused_for : (o : Option ℕ) (n : ℕ) → o ≡ Some n → refusal_of o None ≡ Some (refused n)
refused_for o n is = ap (λ x. refusal_of x None) is
    ∙ ap (λ x. Some (record { number = n; piece = x })) (no_piece (n == 53))

pub accepted_for : (o : Option ℕ) → o ≡ None → refusal_of o None ≡ None
accepted_for o is = ap (λ x. refusal_of x None) is

none_told : (b : Bool) (n : ℕ) → own_number n (cond b None None) ≡ n
none_told true n = refl
none_told false n = refl

-- the reason of a command that tells no piece is its number
pub its_reason : (o : Option ℕ) (why : Refusal) → refusal_of o None ≡ Some why → o ≡ Some (reason_of why)
its_reason None why e = absurd (let f : ◌≡◌ {A = Option Refusal} None (Some why) = e in cc)
its_reason (Some n) why e = ap Some (sym (none_told (n == 53) n) ∙ ap reason_of (same_some e))

pub its_number : (o : Option ℕ) (why : Refusal) → refusal_of o None ≡ Some why → why.number ≡ reason_of why
its_number None why e = absurd (let f : ◌≡◌ {A = Option Refusal} None (Some why) = e in cc)
its_number (Some n) why e = sym (ap (λ (r : Refusal). r.number) (same_some e)) ∙ same_some (its_reason (Some n) why e)
