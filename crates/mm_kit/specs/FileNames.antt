-- The names that the files of a kit may have.
use Rattle.std.specs.Prelude.{ℕ, Bool, false, not, ◌&&◌, ◌||◌, ◌==◌, IsTrue, nat_le, List, [], ◌∷◌}
use Rattle.std.specs.List.{list_any}
use Rattle.mm_definitions.specs.Bounds.{IsLong}

-- the most bytes of a file's name
abbrev pub MostFileNameBytes : ℕ
MostFileNameBytes = 100

-- a letter, a digit, `_` or `-`
abbrev pub is_first : ℕ → Bool
is_first c = (nat_le 48 c && nat_le c 57) || (nat_le 65 c && nat_le c 90) || (nat_le 97 c && nat_le c 122) || (c == 95)
    || (c == 45)

-- one of these, or a dot
abbrev pub is_further : ℕ → Bool
is_further c = is_first c || (c == 46)

-- there is a first byte, which is a letter, a digit, `_` or `-`
abbrev pub begins_well : List ℕ → Bool
begins_well [] = false
begins_well (c ∷ rest) = is_first c

-- A file's name is some of these bytes, and begins with no dot.
pub record IsFileName (text : List ℕ) : Type 0 where
  pub long : IsLong 1 MostFileNameBytes text
  pub first : IsTrue (begins_well text)
  pub all : IsTrue (not (list_any (λ c. not (is_further c)) text))
