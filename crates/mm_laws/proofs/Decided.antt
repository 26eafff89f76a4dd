-- The fields of every record spell a command, or a number is against them.
use Rattle.std.proofs.Common.{rules, ◌≡◌, ◌≤◌, ◌⊎◌, inl, inr, ℕ, ℤ, pos, neg_ℤ, ◌≤ℤ◌, ◌<ℤ◌, List, [], ◌∷◌, length}
use Rattle.std.proofs.Common.{Bool, true, false, Result, Ok, Err, IsErr, refl, sym, ap, subst, arith}
use Rattle.std.specs.Prelude.{codes, bytes_eq, nat_le, int_le, IsTrue, ◌&&◌, ◌||◌, ◌==◌, not, nat_eq, Decides, IsUtf8}
use Rattle.std.specs.Str.{is_utf8}
use Rattle.std.specs.List.{list_any, starts_with, before_first, after_first}
use Rattle.std.proofs.lemmas.Int.{ints}
use Rattle.std.proofs.lemmas.Str.{IsUtf8-from_is_utf8, is_utf8-from_IsUtf8}
use Rattle.std.proofs.lemmas.Bool.Decides.{nat_tests, Decides-by_and, Decides-eqb}
use Rattle.std.proofs.lemmas.Slice.Eq.{bytes_eq-Decides}
use Rattle.hex.specs.Hex.{decode_of}
use Rattle.hex.specs.declared.error.FromHexError.{FromHexError}
use Rattle.mm_definitions.specs.Keys.{Text}
use Rattle.mm_definitions.specs.Bounds.{IsLong, IsText, IsIdentifier, IsContentType, IsWord, IsName}
use Rattle.mm_definitions.specs.Bounds.{begins_with_letter, is_letter_or_digit, has_zero, is_control, is_word_byte}
use Rattle.mm_definitions.specs.Bounds.{is_slash}
use Rattle.mm_definitions.specs.Numbers.{SpellsNumber, IsDigit, AreDigits, LeadDigits, value_from}
use Rattle.mm_definitions.specs.Fields.{Field, OneOf, NumberFrom, BytesTo, TextOf, AnIdentifier, AContentType, AName}
use Rattle.mm_definitions.specs.Fields.{Value, Whole, Plain, IsOneOf, HoldsValue, IsAgainst, AllHold, IsAgainstSome}
use Rattle.mm_definitions.proofs.ReadingFacts.{first_holds, rest_holds, first_lower, rest_lower}
use Rattle.mm_definitions.specs.Records.{Form, IsLeast}

-- ---- tests
true_or_not : (b : Bool) → IsTrue b ⊎ ¬ (IsTrue b)
true_or_not true = inl (search rules)
true_or_not false = inr (λ h. grind arith)

up_to_or_not : (a b : ℕ) → (a ≤ b) ⊎ ¬ (a ≤ b)
up_to_or_not a b = by (nat_le a b) refl
  where
    by : (v : Bool) → nat_le a b ≡ v → (a ≤ b) ⊎ ¬ (a ≤ b)
    by true e = inl (grind (arith, nat_tests, e))
    by false e = inr (λ h. grind (arith, nat_tests, e))

low_or_not : (a b : ℤ) → (a ≤ℤ b) ⊎ (b <ℤ a)
low_or_not a b = by (int_le a b) refl
  where
    by : (v : Bool) → int_le a b ≡ v → (a ≤ℤ b) ⊎ (b <ℤ a)
    by true e = inl (grind (arith, ints, nat_tests, e))
    by false e = inr (grind (arith, ints, nat_tests, e))

both_or_not : {P Q : Type 0} → P ⊎ ¬ P → Q ⊎ ¬ Q → (P × Q) ⊎ ¬ (P × Q)
both_or_not (inl p) (inl q) = inl (p, q)
both_or_not (inl p) (inr q) = inr (λ h. q h.1)
both_or_not (inr p) q = inr (λ h. p h.0)

long_or_not : (least most : ℕ) (t : Text) → IsLong least most t ⊎ ¬ (IsLong least most t)
long_or_not least most t = both_or_not (up_to_or_not least (length t)) (up_to_or_not (length t) most)

utf8_or_not : (t : Text) → IsUtf8 t ⊎ ¬ (IsUtf8 t)
utf8_or_not t = by (is_utf8 t) refl
  where
    by : (v : Bool) → is_utf8 t ≡ v → IsUtf8 t ⊎ ¬ (IsUtf8 t)
    by true e = inl (IsUtf8-from_is_utf8 t e)
    by false e = inr (λ h. let g = is_utf8-from_IsUtf8 t h in absurd (cc))

-- ---- texts
text_or_not : (least most : ℕ) (t : Text) → IsText least most t ⊎ ¬ (IsText least most t)
text_or_not least most t = by (long_or_not least most t) (utf8_or_not t) (true_or_not _)
  where
    by : IsLong least most t ⊎ ¬ (IsLong least most t) → IsUtf8 t ⊎ ¬ (IsUtf8 t) → IsTrue (not (has_zero t))
        ⊎ ¬ (IsTrue (not (has_zero t)))
        → IsText least most t ⊎ ¬ (IsText least most t)
    by (inl a) (inl b) (inl c) = inl (record { long = a; clean = record { utf8 = b; no_zero = c } })
    by (inl a) (inl b) (inr c) = inr (λ h. c h.clean.no_zero)
    by (inl a) (inr b) c = inr (λ h. b h.clean.utf8)
    by (inr a) b c = inr (λ h. a h.long)

identifier_or_not : (t : Text) → IsIdentifier t ⊎ ¬ (IsIdentifier t)
identifier_or_not t = by (utf8_or_not t) (long_or_not 1 1000 t) (true_or_not _)
  where
    by : IsUtf8 t ⊎ ¬ (IsUtf8 t) → IsLong 1 1000 t ⊎ ¬ (IsLong 1 1000 t)
        → IsTrue (not (list_any is_control t)) ⊎ ¬ (IsTrue (not (list_any is_control t))) → IsIdentifier t
        ⊎ ¬ (IsIdentifier t)
    by (inl a) (inl b) (inl c) = inl (record { utf8 = a; long = b; printable = c })
    by (inl a) (inl b) (inr c) = inr (λ h. c h.printable)
    by (inl a) (inr b) c = inr (λ h. b h.long)
    by (inr a) b c = inr (λ h. a h.utf8)

word_or_not : (t : Text) → IsWord t ⊎ ¬ (IsWord t)
word_or_not t = by (long_or_not 1 64 t) (true_or_not _)
  where
    by : IsLong 1 64 t ⊎ ¬ (IsLong 1 64 t)
        → IsTrue (not (list_any (λ c. not (is_word_byte c)) t))
        ⊎ ¬ (IsTrue (not (list_any (λ c. not (is_word_byte c)) t))) → IsWord t ⊎ ¬ (IsWord t)
    by (inl a) (inl b) = inl (record { long = a; all = b })
    by (inl a) (inr b) = inr (λ h. b h.all)
    by (inr a) b = inr (λ h. a h.long)

content_type_or_not : (t : Text) → IsContentType t ⊎ ¬ (IsContentType t)
content_type_or_not t = by (word_or_not (before_first is_slash t)) (word_or_not (after_first is_slash t))
  where
    by : IsWord (before_first is_slash t) ⊎ ¬ (IsWord (before_first is_slash t))
        → IsWord (after_first is_slash t) ⊎ ¬ (IsWord (after_first is_slash t)) → IsContentType t ⊎ ¬ (IsContentType t)
    by (inl a) (inl b) = inl (record { kind = a; form = b })
    by (inl a) (inr b) = inr (λ h. b h.form)
    by (inr a) b = inr (λ h. a h.kind)

abbrev is_own : Text → Bool
is_own t = not (starts_with nat_eq t (codes "gpkg") || starts_with nat_eq t (codes "sqlite") || starts_with nat_eq t (codes "mm_"))

abbrev is_lettered : Text → Bool
is_lettered t = not (list_any (λ c. not (is_letter_or_digit c)) t)

name_or_not : (t : Text) → IsName t ⊎ ¬ (IsName t)
name_or_not t = by (long_or_not 1 60 t) (true_or_not _) (true_or_not _) (true_or_not _)
  where
    by : IsLong 1 60 t ⊎ ¬ (IsLong 1 60 t) → IsTrue (begins_with_letter t) ⊎ ¬ (IsTrue (begins_with_letter t))
        → IsTrue (is_lettered t) ⊎ ¬ (IsTrue (is_lettered t)) → IsTrue (is_own t) ⊎ ¬ (IsTrue (is_own t)) → IsName t
        ⊎ ¬ (IsName t)
    by (inl a) (inl b) (inl c) (inl d) = inl (record { long = a; first = b; all = c; own = d })
    by (inl a) (inl b) (inl c) (inr d) = inr (λ h. d h.own)
    by (inl a) (inl b) (inr c) d = inr (λ h. c h.all)
    by (inl a) (inr b) c d = inr (λ h. b h.first)
    by (inr a) b c d = inr (λ h. a h.long)

-- ---- words
choice_or_not : (words : List Text) (t : Text) → IsOneOf words t ⊎ ¬ (IsOneOf words t)
choice_or_not [] t = inr (λ h. h)
choice_or_not (word ∷ words) t = by (bytes_eq t word) refl (choice_or_not words t)
  where
    by : (v : Bool) → bytes_eq t word ≡ v → IsOneOf words t ⊎ ¬ (IsOneOf words t) → IsOneOf (word ∷ words) t
        ⊎ ¬ (IsOneOf (word ∷ words) t)
    by true e h = inl (inl ((bytes_eq-Decides t word).0 e))
    by false e (inl h) = inl (inr h)
    by false e (inr h) = inr (none e h)
      where
        none : bytes_eq t word ≡ false → ¬ (IsOneOf words t) → IsOneOf (word ∷ words) t → ⊥
        none e h (inl same) = let g = (bytes_eq-Decides t word).1 same in absurd (cc)
        none e h (inr one) = h one

-- ---- numbers
abbrev is_digit : ℕ → Bool
is_digit d = nat_le 48 d && nat_le d 57

abbrev are_digits : List ℕ → Bool
are_digits [] = true
are_digits (d ∷ ds) = is_digit d && are_digits ds

digit_tells : (d : ℕ) → Decides (is_digit d) (IsDigit d)
digit_tells d = (λ e. grind (arith, nat_tests, e), λ h. grind (arith, nat_tests, h))

digits_tell : (ds : List ℕ) → Decides (are_digits ds) (AreDigits ds)
digits_tell ds = Decides-by_and is_digit IsDigit are_digits digit_tells refl (λ _ _. refl) ds

digits_or_not : (ds : List ℕ) → AreDigits ds ⊎ ¬ (AreDigits ds)
digits_or_not ds = by (are_digits ds) refl
  where
    by : (v : Bool) → are_digits ds ≡ v → AreDigits ds ⊎ ¬ (AreDigits ds)
    by true e = inl ((digits_tell ds).0 e)
    by false e = inr (λ h. let g = (digits_tell ds).1 h in absurd (cc))

lead_or_not : (t : Text) → LeadDigits t ⊎ ¬ (LeadDigits t)
lead_or_not [] = inr (λ h. h)
lead_or_not (d ∷ ds) = by (up_to_or_not 49 d) (up_to_or_not d 57) (digits_or_not ds)
  where
    by : (49 ≤ d) ⊎ ¬ (49 ≤ d) → (d ≤ 57) ⊎ ¬ (d ≤ 57) → AreDigits ds ⊎ ¬ (AreDigits ds) → LeadDigits (d ∷ ds)
        ⊎ ¬ (LeadDigits (d ∷ ds))
    by (inl a) (inl b) (inl c) = inl (a, b, c)
    by (inl a) (inl b) (inr c) = inr (λ h. c h.2)
    by (inl a) (inr b) c = inr (λ h. b h.1)
    by (inr a) b c = inr (λ h. a h.0)

behind_minus : (t : Text) → ((digits : List ℕ) × (t ≡ 45 ∷ digits) × LeadDigits digits)
    ⊎ ((digits : List ℕ) → t ≡ 45 ∷ digits → ¬ (LeadDigits digits))
behind_minus [] = inr (λ digits e h. absurd (cc))
behind_minus (d ∷ ds) = by (d == 45) refl (lead_or_not ds)
  where
    by : (v : Bool) → (d == 45) ≡ v → LeadDigits ds ⊎ ¬ (LeadDigits ds)
        → ((digits : List ℕ) × (d ∷ ds ≡ 45 ∷ digits) × LeadDigits digits)
        ⊎ ((digits : List ℕ) → d ∷ ds ≡ 45 ∷ digits → ¬ (LeadDigits digits))
    by true e (inl h) = let same : d ≡ 45 = (Decides-eqb d 45).0 e in inl (ds, ap (λ x. x ∷ ds) same, h)
    by true e (inr h) = inr (λ digits is lead. let same : digits ≡ ds = cc in h (subst LeadDigits same lead))
    by false e h = inr (λ digits is lead. let same : d ≡ 45 = cc in let g = (Decides-eqb d 45).1 same in absurd (cc))

number_or_not : (t : Text) → ((z : ℤ) × SpellsNumber t z) ⊎ ((z : ℤ) → ¬ (SpellsNumber t z))
number_or_not t = by (bytes_eq t (48 ∷ [])) refl (lead_or_not t) (behind_minus t)
  where
    none : bytes_eq t (48 ∷ []) ≡ false → ¬ (LeadDigits t)
        → ((digits : List ℕ) → t ≡ 45 ∷ digits → ¬ (LeadDigits digits)) → (z : ℤ) → SpellsNumber t z → ⊥
    none e h k z (inl a) = let g = (bytes_eq-Decides t (48 ∷ [])).1 a.0 in absurd (cc)
    none e h k z (inr (inl a)) = h a.0
    none e h k z (inr (inr a)) = k a.0 a.1 a.2

    by : (v : Bool) → bytes_eq t (48 ∷ []) ≡ v → LeadDigits t ⊎ ¬ (LeadDigits t)
        → ((digits : List ℕ) × (t ≡ 45 ∷ digits) × LeadDigits digits)
        ⊎ ((digits : List ℕ) → t ≡ 45 ∷ digits → ¬ (LeadDigits digits))
        → ((z : ℤ) × SpellsNumber t z) ⊎ ((z : ℤ) → ¬ (SpellsNumber t z))
    by true e h k = inl (pos 0, inl ((bytes_eq-Decides t (48 ∷ [])).0 e, refl))
    by false e (inl h) k = inl (pos (value_from 0 t), inr (inl (h, refl)))
    by false e (inr h) (inl k) = inl (neg_ℤ (pos (value_from 0 k.0)), inr (inr (k.0, k.1, k.2, refl)))
    by false e (inr h) (inr k) = inr (none e h k)

-- ---- a field holds a value, or a number is against it
abbrev Decided : Field → Text → Type 0
Decided f t = ((v : Value) × HoldsValue f t v) ⊎ ((n : ℕ) × IsAgainst f t n)

number_decided : (low high : ℤ) (t : Text) → Decided (NumberFrom low high) t
number_decided low high t = by (number_or_not t)
  where
    within : (z : ℤ) → SpellsNumber t z → (low ≤ℤ z) ⊎ (z <ℤ low) → (z ≤ℤ high) ⊎ (high <ℤ z)
        → Decided (NumberFrom low high) t
    within z s (inl a) (inl b) = inl (Whole z, (s, (a, b)))
    within z s (inl a) (inr b) = inr (11, inr (refl, z, s, inr b))
    within z s (inr a) b = inr (11, inr (refl, z, s, inl a))

    by : ((z : ℤ) × SpellsNumber t z) ⊎ ((z : ℤ) → ¬ (SpellsNumber t z)) → Decided (NumberFrom low high) t
    by (inl h) = within h.0 h.1 (low_or_not low h.0) (low_or_not h.0 high)
    by (inr h) = inr (10, inl (refl, h))

bytes_decided : (most : ℕ) (t : Text) → Decided (BytesTo most) t
bytes_decided most t = by (decode_of t) refl
  where
    long : (bytes : List ℕ) → decode_of t ≡ Ok bytes → IsLong 1 most bytes ⊎ ¬ (IsLong 1 most bytes)
        → Decided (BytesTo most) t
    long bytes e (inl h) = inl (Plain bytes, (e, h))
    long bytes e (inr h) = inr (11, inr (refl, bytes, e, h))

    by : (r : Result (List ℕ) FromHexError) → decode_of t ≡ r → Decided (BytesTo most) t
    by (Ok bytes) e = long bytes e (long_or_not 1 most bytes)
    by (Err fault) e = inr (10, inl (refl, subst IsErr (sym e) (search rules)))

text_decided : (f : Field) (P : Text → Type 0) (wanted : ℕ) (t : Text) → (P t → HoldsValue f t (Plain t))
    → (¬ (P t) → IsAgainst f t wanted)
    → P t ⊎ ¬ (P t) → Decided f t
text_decided f P wanted t within without (inl h) = inl (Plain t, within h)
text_decided f P wanted t within without (inr h) = inr (wanted, without h)

pub decided : (f : Field) (t : Text) → Decided f t
decided (OneOf words) t = text_decided (OneOf words) (IsOneOf words) 10 t (λ h. (refl, h)) (λ h. (refl, h))
    (choice_or_not words t)
decided (NumberFrom low high) t = number_decided low high t
decided (BytesTo most) t = bytes_decided most t
decided (TextOf least most) t = text_decided (TextOf least most) (IsText least most) 11 t (λ h. (refl, h))
    (λ h. (refl, h)) (text_or_not least most t)
decided AnIdentifier t = text_decided AnIdentifier IsIdentifier 11 t (λ h. (refl, h)) (λ h. (refl, h))
    (identifier_or_not t)
decided AContentType t = text_decided AContentType IsContentType 11 t (λ h. (refl, h)) (λ h. (refl, h))
    (content_type_or_not t)
decided AName t = text_decided AName IsName 12 t (λ h. (refl, h)) (λ h. (refl, h)) (name_or_not t)

-- ---- the fields of a form
abbrev pub AllDecided : Form → List Text → Type 0
AllDecided fs ts = ((vs : List Value) × AllHold fs ts vs) ⊎ ((n : ℕ) × IsLeast (IsAgainstSome fs ts) n)

pub all_decided : (fs : Form) (ts : List Text) → AllDecided fs ts
all_decided [] [] = inl ([], tt)
all_decided [] (t ∷ ts) = inr (10, record { is_held = refl; is_least = λ m e. omega (arith, e) })
all_decided (f ∷ fs) [] = inr (10, record { is_held = refl; is_least = λ m e. omega (arith, e) })
all_decided (f ∷ fs) (t ∷ ts) = by (decided f t) (all_decided fs ts)
  where
    lower : (n k : ℕ) → IsAgainst f t n → IsLeast (IsAgainstSome fs ts) k → (v : Bool) → nat_le n k ≡ v
        → AllDecided (f ∷ fs) (t ∷ ts)
    lower n k a l true e = inr (n, first_lower f fs t ts n k a l (grind (arith, nat_tests, e)))
    lower n k a l false e = inr (k, rest_lower f fs t ts n k a l (grind (arith, nat_tests, e)))

    by : Decided f t → AllDecided fs ts → AllDecided (f ∷ fs) (t ∷ ts)
    by (inl h) (inl k) = inl (h.0 ∷ k.0, (h.1, k.1))
    by (inl h) (inr l) = inr (l.0, first_holds f fs t ts h.0 l.0 h.1 l.1)
    by (inr a) (inl k) = inr (a.0, rest_holds f fs t ts k.0 a.0 a.1 k.1)
    by (inr a) (inr l) = lower a.0 l.0 a.1 l.1 (nat_le a.0 l.0) refl
