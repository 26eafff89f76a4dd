-- What the numbers, bytes and texts of a package are limited to.
use Rattle.std.specs.Prelude.{ℕ, ◌-◌, ◌≤◌, ◌^◌, Bool, true, false, not, ◌&&◌, ◌||◌, IsTrue, nat_le, ℤ, pos, negsuc}
use Rattle.std.specs.Prelude.{neg_ℤ, ◌≤ℤ◌, List, [], ◌∷◌, length, codes, nat_eq, ◌==◌}
use Rattle.std.specs.Str.{IsUtf8}
use Rattle.std.specs.List.{list_any, starts_with, before_first, after_first}

-- What a profile of whole numbers limits by its unit of length, and what it takes.
pub record Profile : Type 0 where
  pub version : ℤ
  pub coordinate : ℕ
  pub pixel_size : ℕ
  -- whether an edition can hold matrices
  pub matrix_pieces : Bool

-- profile 1, in whole millimetres, whose editions hold no matrices
abbrev pub millimetres : Profile
millimetres = record { version = pos 1; coordinate = 10 ^ 11; pixel_size = 10 ^ 9; matrix_pieces = false }

-- profile 2, in whole micrometres, whose editions can hold matrices
abbrev pub micrometres : Profile
micrometres = record { version = pos 2; coordinate = 10 ^ 14; pixel_size = 10 ^ 12; matrix_pieces = true }

-- the profile in use, which a new package has and each command keeps
abbrev pub current : Profile
current = micrometres

-- ---- the limits, which stand nowhere else
-- the highest zoom level
abbrev pub LastZoom : ℕ
LastZoom = 30

-- the most tiles of a matrix, in a row or column
abbrev pub MostTiles : ℕ
MostTiles = 2 ^ 30

-- the most pixels of a tile, in a row or column
abbrev pub MostPixels : ℕ
MostPixels = 4096

-- the largest number of a row, a medium, a piece or a reference system
abbrev pub LastId : ℕ
LastId = 2 ^ 53

-- the largest amount of an attribute row, either way
abbrev pub MostAmount : ℕ
MostAmount = 10 ^ 15

-- the most pieces of an edition
abbrev pub MostPieces : ℕ
MostPieces = 4096

-- the most bytes of a tile, 2^20
abbrev pub MostTileBytes : ℕ
MostTileBytes = 1048576

-- the most bytes of a medium, 2^22
abbrev pub MostMediaBytes : ℕ
MostMediaBytes = 4194304

-- the most bytes of a name
abbrev pub MostNameBytes : ℕ
MostNameBytes = 60

-- the most bytes of one of the two words of a content type
abbrev pub MostWordBytes : ℕ
MostWordBytes = 64

-- the most bytes of an identifier, of a system's name, organization or description, and of a row's title or note
abbrev pub MostTextBytes : ℕ
MostTextBytes = 1000

-- the most bytes of the definition of a reference system
abbrev pub MostDefinitionBytes : ℕ
MostDefinitionBytes = 8192

-- ---- what is within them
-- from low to high, both included
abbrev pub IsFrom : ℤ → ℤ → ℤ → Type 0
IsFrom low high z = (low ≤ℤ z) × (z ≤ℤ high)

-- a coordinate in the profile's unit, up to its limit in either direction
abbrev pub IsCoordinate : Profile → ℤ → Type 0
IsCoordinate profile = IsFrom (neg_ℤ (pos profile.coordinate)) (pos profile.coordinate)

-- the width or height of a pixel, in the profile's unit
abbrev pub IsPixelSize : Profile → ℤ → Type 0
IsPixelSize profile = IsFrom (pos 1) (pos profile.pixel_size)

-- a zoom level
abbrev pub IsZoom : ℤ → Type 0
IsZoom = IsFrom (pos 0) (pos LastZoom)

-- the width or height of a matrix, in tiles
abbrev pub IsMatrixSide : ℤ → Type 0
IsMatrixSide = IsFrom (pos 1) (pos MostTiles)

-- the width or height of a tile, in pixels
abbrev pub IsTileSide : ℤ → Type 0
IsTileSide = IsFrom (pos 1) (pos MostPixels)

-- a column or row of tiles
abbrev pub IsTilePlace : ℤ → Type 0
IsTilePlace = IsFrom (pos 0) (pos (MostTiles - 1))

-- the number of a row, a medium, a piece, or a reference system that is not given
abbrev pub IsId : ℤ → Type 0
IsId = IsFrom (pos 1) (pos LastId)

-- the number of any reference system, one of the three given among them
abbrev pub IsSystemNumber : ℤ → Type 0
IsSystemNumber = IsFrom (negsuc 0) (pos LastId)

-- the amount of an attribute row
abbrev pub IsAmount : ℤ → Type 0
IsAmount = IsFrom (neg_ℤ (pos MostAmount)) (pos MostAmount)

-- milliseconds since 1970-01-01T00:00:00Z, up to the end of the year 9999
abbrev pub IsMoment : ℕ → Type 0
IsMoment m = m ≤ 253402300799999

-- as many bytes as from least to most
abbrev pub IsLong : ℕ → ℕ → List ℕ → Type 0
IsLong least most bytes = (least ≤ length bytes) × (length bytes ≤ most)

-- the bytes of a tile, from 1 to the most of them
abbrev pub IsTileBytes : List ℕ → Type 0
IsTileBytes = IsLong 1 MostTileBytes

-- the bytes of a medium, from 1 to the most of them
abbrev pub IsMediaBytes : List ℕ → Type 0
IsMediaBytes = IsLong 1 MostMediaBytes

-- a letter of a name: a-z or _
abbrev pub is_letter : ℕ → Bool
is_letter c = (nat_le 97 c && nat_le c 122) || (nat_le 95 c && nat_le c 95)

-- a byte that a name can hold
abbrev pub is_letter_or_digit : ℕ → Bool
is_letter_or_digit c = is_letter c || (nat_le 48 c && nat_le c 57)

-- there is a first byte, and it is a letter or _
abbrev pub begins_with_letter : List ℕ → Bool
begins_with_letter [] = false
begins_with_letter (c ∷ cs) = is_letter c

-- A name of a table, a mapping or an edition is 1 to 60 of a-z, 0-9 and _, begins with no digit, and not with gpkg,
-- sqlite or mm_.
pub record IsName (text : List ℕ) : Type 0 where
  pub long : IsLong 1 MostNameBytes text
  pub first : IsTrue (begins_with_letter text)
  pub all : IsTrue (not (list_any (λ c. not (is_letter_or_digit c)) text))
  pub own : IsTrue (not (starts_with nat_eq text (codes "gpkg") || starts_with nat_eq text (codes "sqlite") || starts_with nat_eq text (codes "mm_")))

-- whether byte 0 stands among the bytes
abbrev pub has_zero : List ℕ → Bool
has_zero = list_any (λ c. nat_le c 0)

-- A text of any length is UTF-8 without byte 0. The store itself takes any bytes as a text.
pub record IsClean (text : List ℕ) : Type 0 where
  pub utf8 : IsUtf8 text
  pub no_zero : IsTrue (not (has_zero text))

-- a text of as many bytes as from least to most
pub record IsText (least most : ℕ) (text : List ℕ) : Type 0 where
  pub long : IsLong least most text
  pub clean : IsClean text

-- a byte that an identifier can't hold: below 0x20, or 0x7f
abbrev pub is_control : ℕ → Bool
is_control c = nat_le c 31 || (nat_le 127 c && nat_le c 127)

-- the identifier of a table
pub record IsIdentifier (text : List ℕ) : Type 0 where
  pub utf8 : IsUtf8 text
  pub long : IsLong 1 MostTextBytes text
  pub printable : IsTrue (not (list_any is_control text))

-- the name of a reference system, or its organization
abbrev pub IsSystemName : List ℕ → Type 0
IsSystemName = IsText 1 MostTextBytes

-- the definition of a reference system
abbrev pub IsDefinition : List ℕ → Type 0
IsDefinition = IsText 1 MostDefinitionBytes

-- a system's description, a row's title, a row's note
abbrev pub IsRemark : List ℕ → Type 0
IsRemark = IsText 0 MostTextBytes

-- a mark that a word of a content type can hold
abbrev pub is_mark : ℕ → Bool
is_mark c = list_any (λ mark. mark == c) (codes "!#$&^_.+-")

-- a byte of a word of a content type: a digit, a letter of either case, or a mark
abbrev pub is_word_byte : ℕ → Bool
is_word_byte c = (nat_le 48 c && nat_le c 57) || (nat_le 65 c && nat_le c 90) || (nat_le 97 c && nat_le c 122)
    || is_mark c

-- one of the two words of a content type
pub record IsWord (text : List ℕ) : Type 0 where
  pub long : IsLong 1 MostWordBytes text
  pub all : IsTrue (not (list_any (λ c. not (is_word_byte c)) text))

-- the byte between the two words
abbrev pub is_slash : ℕ → Bool
is_slash c = c == 47

-- A content type is two words, before and after the first slash. A word has none.
pub record IsContentType (text : List ℕ) : Type 0 where
  pub kind : IsWord (before_first is_slash text)
  pub form : IsWord (after_first is_slash text)
