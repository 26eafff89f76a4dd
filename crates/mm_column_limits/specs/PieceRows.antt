-- What the tests of rows of editions and of staged pieces ask.
use Rattle.std.specs.Prelude.{◌≡◌, ◌⊎◌, ℕ, pos, false, List, [], codes, Some, IsTrue}
use Rattle.sqlite.specs.Order.{Row, column}
use Rattle.mm_definitions.specs.Bounds.{Profile, IsMatrixSide, IsTileSide, IsPixelSize, IsFrom, MostPieces, IsName}
use Rattle.mm_definitions.specs.Bounds.{IsZoom, IsTilePlace, IsId, IsAmount, IsRemark, IsContentType, IsTileBytes}
use Rattle.mm_definitions.specs.Bounds.{IsMediaBytes}
use Rattle.mm_walk.specs.Columns.{number_of, text_bytes, is_there}
use Rattle.mm_column_limits.specs.LimitRows.{text_by, number_by, bytes_by}

-- the state of an edition, which is open or published
abbrev pub IsStateRow : Row → Type 0
IsStateRow r = (text_bytes (column r 0) ≡ Some (codes "open")) ⊎ (text_bytes (column r 0) ≡ Some (codes "published"))

-- the state of a piece's edition, which is open
abbrev pub IsOpenRow : Row → Type 0
IsOpenRow r = text_bytes (column r 0) ≡ Some (codes "open")

-- the number of a piece, and the number before it if that stands
abbrev pub IsNumberedRow : Row → Type 0
IsNumberedRow r = number_by (IsFrom (pos 1) (pos MostPieces)) (column r 0)
    × ((number_of (column r 0) ≡ Some (pos 1)) ⊎ IsTrue (is_there (column r 1)))

-- ---- the columns of a piece: kind, name, seven numbers, two texts, and the bytes of its blob
-- the number in this column is 0, as where the kind uses none there
abbrev pub IsZero : Row → ℕ → Type 0
IsZero r at = number_of (column r at) ≡ Some (pos 0)

-- the piece is of this kind
abbrev pub IsOfKind : List ℕ → Row → Type 0
IsOfKind kind r = text_bytes (column r 0) ≡ Some kind

-- k4 to k7 are 0, as in each kind but a matrix
abbrev pub AreUnused : Row → Type 0
AreUnused r = IsZero r 5 × IsZero r 6 × IsZero r 7 × IsZero r 8

-- both texts are empty
abbrev pub HasNoTexts : Row → Type 0
HasNoTexts r = (text_bytes (column r 9) ≡ Some []) × (text_bytes (column r 10) ≡ Some [])

-- it names no blob
abbrev pub HasNoBytes : Row → Type 0
HasNoBytes r = is_there (column r 11) ≡ false

-- k1 to k3 are the zoom level, column and row of a tile
abbrev pub IsPlaceOfTile : Row → Type 0
IsPlaceOfTile r = number_by IsZoom (column r 2) × number_by IsTilePlace (column r 3)
    × number_by IsTilePlace (column r 4)

-- k1 is the number of an attribute row or a medium, and k2 and k3 are 0
abbrev pub IsItem : Row → Type 0
IsItem r = number_by IsId (column r 2) × IsZero r 3 × IsZero r 4

-- k1 and k2 are the base id and the related id of a mapping row, and k3 is 0
abbrev pub IsPair : Row → Type 0
IsPair r = number_by IsId (column r 2) × number_by IsId (column r 3) × IsZero r 4

-- puts a tile: its place and its bytes
abbrev pub IsTile : Row → Type 0
IsTile r = IsOfKind (codes "tile") r × IsPlaceOfTile r × HasNoTexts r × bytes_by IsTileBytes (column r 11)

-- removes a tile: its place
abbrev pub IsTileDrop : Row → Type 0
IsTileDrop r = IsOfKind (codes "tile-drop") r × IsPlaceOfTile r × HasNoTexts r × HasNoBytes r

-- puts an attribute row: its number and amount, its title and note
abbrev pub PutsRow : Row → Type 0
PutsRow r = IsOfKind (codes "row") r × number_by IsId (column r 2) × number_by IsAmount (column r 3) × IsZero r 4
    × text_by IsRemark (column r 9) × text_by IsRemark (column r 10) × HasNoBytes r

-- removes an attribute row or a medium, as the kind says: its number
abbrev pub IsItemDrop : List ℕ → Row → Type 0
IsItemDrop kind r = IsOfKind kind r × IsItem r × HasNoTexts r × HasNoBytes r

-- puts a medium: its number, content type and bytes
abbrev pub IsMedia : Row → Type 0
IsMedia r = IsOfKind (codes "media") r × IsItem r × text_by IsContentType (column r 9)
    × (text_bytes (column r 10) ≡ Some []) × bytes_by IsMediaBytes (column r 11)

-- puts or removes a mapping row, as the kind says: its two ids
abbrev pub IsMap : List ℕ → Row → Type 0
IsMap kind r = IsOfKind kind r × IsPair r × HasNoTexts r × HasNoBytes r

-- a piece that puts a tile, an attribute row, a medium or a mapping row
abbrev pub PutsEntry : Row → Type 0
PutsEntry r = IsTile r ⊎ (PutsRow r ⊎ (IsMedia r ⊎ IsMap (codes "map") r))

-- a piece that removes one of these
abbrev pub IsDrop : Row → Type 0
IsDrop r = IsTileDrop r ⊎ (IsItemDrop (codes "row-drop") r ⊎ (IsItemDrop (codes "media-drop") r ⊎ IsMap (codes "map-drop") r))

-- one of the eight kinds that leave four numbers unused
abbrev pub IsContent : Row → Type 0
IsContent r = AreUnused r × (PutsEntry r ⊎ IsDrop r)

-- k2 to k5 are the width and height of a matrix in tiles, and those of a tile in pixels
abbrev pub AreSides : Row → Type 0
AreSides r = number_by IsMatrixSide (column r 3) × number_by IsMatrixSide (column r 4)
    × number_by IsTileSide (column r 5) × number_by IsTileSide (column r 6)

-- puts a matrix, where the profile takes such a piece: its zoom level, its sides, and k6 and k7 as its pixel sizes
abbrev pub IsMatrix : Profile → Row → Type 0
IsMatrix profile r =
    IsTrue profile.matrix_pieces × IsOfKind (codes "matrix") r × number_by IsZoom (column r 2) × AreSides r
    × number_by (IsPixelSize profile) (column r 7) × number_by (IsPixelSize profile) (column r 8) × HasNoTexts r
    × HasNoBytes r

-- a row that spells a piece of the profile: the name of a table or a mapping, and the columns as its kind uses them
pub record IsSpelledRow (profile : Profile) (r : Row) : Type 0 where
  pub name : text_by IsName (column r 1)
  pub form : IsContent r ⊎ IsMatrix profile r
