-- The values of a shown row.
use Rattle.std.specs.Prelude.{◌≡◌, ◌⊎◌, ℕ, ℤ, codes, Bool, true, false, ⊤, List, Option, Some, None}
use Rattle.std.specs.Str.{IsUtf8}
use Rattle.sqlite.specs.declared.types.Value.{Value}
use Rattle.sqlite.specs.declared.types.Value.TheVariants.{Null, Int, Text as Words, Blob}

-- the number, where the value is one
abbrev pub number_of : Value → Option ℤ
number_of (Int z) = Some z
number_of _ = None

-- whether there is a value, of whatever kind: it is not NULL
abbrev pub is_there : Value → Bool
is_there Null = false
is_there _ = true

-- the bytes, where the value is a blob
abbrev pub bytes_of : Value → Option (List ℕ)
bytes_of (Blob bytes) = Some bytes
bytes_of _ = None

-- the bytes of the text, UTF-8 or not, where the value is a text
abbrev pub text_bytes : Value → Option (List ℕ)
text_bytes (Words text) = Some text
text_bytes _ = None

-- no text that is UTF-8
abbrev pub Unread : Option (List ℕ) → Type 0
Unread None = ⊤
Unread (Some text) = IsUtf8 text → ⊥

-- the text of the kind of a pyramid
abbrev pub IsPyramidKind : Value → Type 0
IsPyramidKind v = (text_bytes v ≡ Some (codes "two")) ⊎ (text_bytes v ≡ Some (codes "other"))

-- two texts that are the same
abbrev pub same_words_by : Value → Value → Type 0
same_words_by (Words a) (Words b) = a ≡ b
same_words_by _ _ = ⊥
