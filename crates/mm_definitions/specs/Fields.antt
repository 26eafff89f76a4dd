-- A field of a record: what it holds, and which numbers hold against its text.
use Rattle.std.specs.Prelude.{◌≡◌, ℕ, ◌⊎◌, ℤ, ◌<ℤ◌, List, [], ◌∷◌, ⊤}
use Rattle.mm_definitions.specs.Keys.{Text}
use Rattle.mm_definitions.specs.Bounds.{IsFrom, IsName, IsText, IsIdentifier, IsContentType}
use Rattle.mm_definitions.specs.Numbers as numbers
use Rattle.mm_definitions.specs.Reading.{refuses_unless, refuses_bytes, reads_bytes, reads_text}
use Rattle.mm_definitions.specs.declared.refusals.TheConstants.{NO_SUCH_RECORD, OUT_OF_LIMITS, NOT_A_NAME}

-- what a field holds: one of some words; a number from the first to the second; 1 to so many bytes in
-- hexadecimal digits; a text of so many bytes; an identifier; a content type; a name
pub data Field : Type 0 where
  OneOf : List Text → Field
  NumberFrom : ℤ → ℤ → Field
  BytesTo : ℕ → Field
  TextOf : ℕ → ℕ → Field
  AnIdentifier : Field
  AContentType : Field
  AName : Field

-- the value of a field: a number, or the bytes of anything else
pub data Value : Type 0 where
  Whole : ℤ → Value
  Plain : List ℕ → Value

-- the text is one of these words, letter by letter
abbrev pub IsOneOf : List Text → Text → Type 0
IsOneOf [] t = ⊥
IsOneOf (word ∷ words) t = (t ≡ word) ⊎ IsOneOf words t

-- the field's text is this value, within the limits
abbrev pub HoldsValue : Field → Text → Value → Type 0
HoldsValue (OneOf words) t (Plain v) = (v ≡ t) × IsOneOf words t
HoldsValue (NumberFrom low high) t (Whole z) = numbers.SpellsNumber t z × IsFrom low high z
HoldsValue (BytesTo most) t (Plain v) = reads_bytes most t v
HoldsValue (TextOf least most) t (Plain v) = reads_text (IsText least most) t v
HoldsValue AnIdentifier t (Plain v) = reads_text IsIdentifier t v
HoldsValue AContentType t (Plain v) = reads_text IsContentType t v
HoldsValue AName t (Plain v) = reads_text IsName t v
HoldsValue _ t v = ⊥

-- the number holds against the field's text: 10 where it is no number, bytes or word of the choice; 11 where its
-- value or length is outside the limits; 12 where it is no name
abbrev pub IsAgainst : Field → Text → ℕ → Type 0
IsAgainst (OneOf words) t n = (n ≡ NO_SUCH_RECORD) × ¬ (IsOneOf words t)
IsAgainst (NumberFrom low high) t n = ((n ≡ NO_SUCH_RECORD) × ((z : ℤ) → ¬ (numbers.SpellsNumber t z)))
    ⊎ ((n ≡ OUT_OF_LIMITS) × (z : ℤ) × numbers.SpellsNumber t z × ((z <ℤ low) ⊎ (high <ℤ z)))
IsAgainst (BytesTo most) t n = refuses_bytes most t n
IsAgainst (TextOf least most) t n = refuses_unless (IsText least most) OUT_OF_LIMITS t n
IsAgainst AnIdentifier t n = refuses_unless IsIdentifier OUT_OF_LIMITS t n
IsAgainst AContentType t n = refuses_unless IsContentType OUT_OF_LIMITS t n
IsAgainst AName t n = refuses_unless IsName NOT_A_NAME t n

-- ---- the fields of a record
-- as many texts as fields, each of which holds its value
abbrev pub AllHold : List Field → List Text → List Value → Type 0
AllHold [] [] [] = ⊤
AllHold (f ∷ fs) (t ∷ ts) (v ∷ vs) = HoldsValue f t v × AllHold fs ts vs
AllHold _ _ _ = ⊥

-- the number holds against one of the texts, or is 10 where they are too few or too many
abbrev pub IsAgainstSome : List Field → List Text → ℕ → Type 0
IsAgainstSome [] [] n = ⊥
IsAgainstSome (f ∷ fs) (t ∷ ts) n = IsAgainst f t n ⊎ IsAgainstSome fs ts n
IsAgainstSome _ _ n = n ≡ NO_SUCH_RECORD
