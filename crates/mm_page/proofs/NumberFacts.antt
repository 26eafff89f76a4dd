-- What the bytes of names and numbers are: no slash, and ASCII.
use Rattle.std.proofs.Common.{◌≡◌, ◌≢◌, ◌<◌, inl, inr, ℕ, zero, suc, ℤ, List, [], ◌∷◌}
use Rattle.std.proofs.Common.{length, true, false, ◌==◌, All, IsTrue, not, refl, ap, arith}
use Rattle.std.specs.List.{list_any}
use Rattle.std.proofs.lemmas.List.Elements.{All-head, All-tail}
use Rattle.std.proofs.lemmas.Bool.Decides.{nat_tests}
use Rattle.mm_definitions.proofs.Parts.{either_false}
use Rattle.std.specs.Str.{IsAscii}
use Rattle.std.proofs.lemmas.Str.Ascii.{IsAscii-nil}
use Rattle.std.proofs.lemmas.Bool.{not-false, not-true}
use Rattle.matchit.specs.Seek.{has_slash}
use Rattle.mm_definitions.specs.Bounds.{IsName, is_letter_or_digit}
use Rattle.mm_page.specs.Routes.{IsPathPart}
use Rattle.mm_definitions.specs.Numbers.{AreDigits, IsDigit, LeadDigits, SpellsNumber}

-- what is no slash before what has none
pub onward : (b : ℕ) (rest : List ℕ) → b ≢ 47 → has_slash rest ≡ false → has_slash (b ∷ rest) ≡ false
onward b rest other none = let q : (b == 47) ≡ false = grind (arith, nat_tests) in rw (q, none) refl

-- a text of letters and digits, byte by byte
abbrev pub AreLettersOrDigits : List ℕ → Type 0
AreLettersOrDigits text = IsTrue (not (list_any (λ c. not (is_letter_or_digit c)) text))

letter_first : (b : ℕ) (rest : List ℕ) → AreLettersOrDigits (b ∷ rest) → IsTrue (is_letter_or_digit b)
    × AreLettersOrDigits rest
letter_first b rest h =
    let none = not-true (list_any (λ c. not (is_letter_or_digit c)) (b ∷ rest)) h in
    let p = either_false (not (is_letter_or_digit b)) (list_any (λ c. not (is_letter_or_digit c)) rest) none in
    (not-false (is_letter_or_digit b) p.0, ap not p.1)

name_clean : (text : List ℕ) → AreLettersOrDigits text → has_slash text ≡ false
name_clean [] h = refl
name_clean (b ∷ rest) h =
    let p = letter_first b rest h in
    onward b rest
    (λ e. let g : is_letter_or_digit 47 ≡ true = rw e at p.0 in let k : false ≡ true = g in cc)
    (name_clean rest p.1)

-- a name is a part of a path, and so is a number's text
pub name_part : (text : List ℕ) → IsName text → IsPathPart text
name_part text h = (name_clean text h.all, (let l = h.long.0 in omega (arith, l)))

digits_clean : (digits : List ℕ) → AreDigits digits → has_slash digits ≡ false
digits_clean [] h = refl
digits_clean (b ∷ rest) h = let d = All-head IsDigit b rest h in onward b rest (λ e. omega (arith, d.0, e))
    (digits_clean rest (All-tail IsDigit b rest h))

lead_part : (digits : List ℕ) → LeadDigits digits → IsPathPart digits
lead_part [] h = absurd h
lead_part (b ∷ rest) h = (onward b rest (λ e. omega (arith, h.0, e)) (digits_clean rest h.2), omega arith)

pub spelled_part : (text : List ℕ) (z : ℤ) → SpellsNumber text z → IsPathPart text
spelled_part text z (inl (e, f)) = rw e (refl, (let l : 0 < 1 = omega arith in l))
spelled_part text z (inr (inl (h, f))) = lead_part text h
spelled_part text z (inr (inr (d, e, h, f))) =
    rw e (onward 45 d (λ q. omega (arith, q)) (lead_part d h).0, (let l : 0 < length (45 ∷ d) = omega arith in l))

-- names and numbers are ASCII
all_low : (P : ℕ → Type 0) → ((b : ℕ) → P b → b < 128) → (text : List ℕ) → All P text → IsAscii text
all_low P low [] h i = omega arith
all_low P low (b ∷ rest) h zero = low b (All-head P b rest h)
all_low P low (b ∷ rest) h (suc i) = all_low P low rest (All-tail P b rest h) i

name_low : (b : ℕ) → IsTrue (is_letter_or_digit b) → b < 128
name_low b h = grind (arith, nat_tests)

letters_ascii : (text : List ℕ) → AreLettersOrDigits text → IsAscii text
letters_ascii [] h i = omega arith
letters_ascii (b ∷ rest) h zero = name_low b (letter_first b rest h).0
letters_ascii (b ∷ rest) h (suc i) = letters_ascii rest (letter_first b rest h).1 i

pub name_ascii : (text : List ℕ) → IsName text → IsAscii text
name_ascii text h = letters_ascii text h.all

digits_ascii : (digits : List ℕ) → AreDigits digits → IsAscii digits
digits_ascii digits h = all_low IsDigit (λ b d. omega (arith, d.1)) digits h

first_ascii : (b : ℕ) (rest : List ℕ) → b < 128 → IsAscii rest → IsAscii (b ∷ rest)
first_ascii b rest low h zero = low
first_ascii b rest low h (suc i) = h i

lead_ascii : (digits : List ℕ) → LeadDigits digits → IsAscii digits
lead_ascii [] h = absurd h
lead_ascii (b ∷ rest) h = first_ascii b rest (omega (arith, h.1)) (digits_ascii rest h.2)

pub spelled_ascii : (text : List ℕ) (z : ℤ) → SpellsNumber text z → IsAscii text
spelled_ascii text z (inl (e, f)) = rw e (first_ascii 48 [] (omega arith) IsAscii-nil)
spelled_ascii text z (inr (inl (h, f))) = lead_ascii text h
spelled_ascii text z (inr (inr (d, e, h, f))) = rw e (first_ascii 45 d (omega arith) (lead_ascii d h))
