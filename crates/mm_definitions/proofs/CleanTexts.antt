-- Names and other ASCII texts are UTF-8 without byte 0.
use Rattle.std.proofs.Common.{◌≡◌, ℕ, zero, suc, ◌<◌, Bool, true, false, not, ◌||◌, [], ◌∷◌, nat_le, nat_lt, refl, ap}
use Rattle.std.proofs.Common.{◌∙◌, arith}
use Rattle.std.proofs.lemmas.Bool.Decides.{nat_tests}
use Rattle.std.proofs.lemmas.List.Elements.{All-from_recursion}
use Rattle.std.proofs.lemmas.Str.{IsUtf8-from_ascii}
use Rattle.std.proofs.lemmas.Str.Ascii.{IsAscii-from_all}
use Rattle.std.specs.List.{list_any, AllByRecursion}
use Rattle.std.proofs.lemmas.Bool.{not-true}
use Rattle.mm_definitions.specs.Keys.{Text}
use Rattle.mm_definitions.specs.Bounds.{IsName, IsClean, is_letter_or_digit, has_zero}
use Rattle.mm_definitions.proofs.Parts.{either_false}

abbrev pub is_beyond_ascii : ℕ → Bool
is_beyond_ascii c = not (nat_lt c 128)

is_low : (c : ℕ) → is_beyond_ascii c ≡ false → c < 128
is_low c e = grind (arith, nat_tests)

all_low : (text : Text) → list_any is_beyond_ascii text ≡ false → AllByRecursion (λ c. c < 128) text
all_low [] e = tt
all_low (c ∷ cs) e = let p = either_false (is_beyond_ascii c) (list_any is_beyond_ascii cs) e in
    (is_low c p.0, all_low cs p.1)

pub ascii_is_clean : (text : Text) → list_any is_beyond_ascii text ≡ false → has_zero text ≡ false → IsClean text
ascii_is_clean text low none = record {
  utf8 = IsUtf8-from_ascii text (IsAscii-from_all text (All-from_recursion (λ c. c < 128) text (all_low text low)));
  no_zero = ap not none;
}

-- a test that is true of fewer bytes
pub none_of_fewer : (test fewer : ℕ → Bool) → ((c : ℕ) → test c ≡ false → fewer c ≡ false) → (text : Text)
    → list_any test text ≡ false
    → list_any fewer text ≡ false
none_of_fewer test fewer so [] e = refl
none_of_fewer test fewer so (c ∷ cs) e =
    let p = either_false (test c) (list_any test cs) e in
    ap (λ b. b || list_any fewer cs) (so c p.0) ∙ none_of_fewer test fewer so cs p.1

not_zero : (c : ℕ) → not (is_letter_or_digit c) ≡ false → nat_le c 0 ≡ false
not_zero zero e = absurd (let f : true ≡ false = e in cc)
not_zero (suc n) e = grind (arith, nat_tests)

not_beyond : (c : ℕ) → not (is_letter_or_digit c) ≡ false → is_beyond_ascii c ≡ false
not_beyond c e = grind (arith, nat_tests)

pub name_is_clean : (text : Text) → IsName text → IsClean text
name_is_clean text n =
    let all = not-true (list_any (λ c. not (is_letter_or_digit c)) text) n.all in
    ascii_is_clean text
    (none_of_fewer (λ c. not (is_letter_or_digit c)) is_beyond_ascii not_beyond text all)
    (none_of_fewer (λ c. not (is_letter_or_digit c)) (λ c. nat_le c 0) not_zero text all)
