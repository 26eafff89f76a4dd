-- What rule 16 asks of the columns of a row.
use Rattle.std.specs.Prelude.{◌≡◌, ℤ, List, [], ◌∷◌, ℕ, ◌+◌, ⊤, Option, Some, IfSome, MatchOption}
use Rattle.std.specs.Str.{IsUtf8}
use Rattle.sqlite.specs.Order.{Row, column}
use Rattle.sqlite.specs.declared.types.Value.{Value}
use Rattle.mm_definitions.specs.Bounds.{Profile, IsCoordinate, IsPixelSize, IsZoom, IsMatrixSide, IsTileSide}
use Rattle.mm_definitions.specs.Bounds.{IsTilePlace, IsId, IsSystemNumber, IsAmount, IsTileBytes, IsMediaBytes}
use Rattle.mm_definitions.specs.Bounds.{IsName, IsClean, IsIdentifier, IsSystemName, IsDefinition, IsRemark}
use Rattle.mm_definitions.specs.Bounds.{IsContentType}
use Rattle.mm_definitions.specs.Rules.{AreSystemNumbers}
use Rattle.mm_definitions.specs.Stamp.{IsSomeStamp}
use Rattle.mm_walk.specs.Columns.{number_of, text_bytes, bytes_of}
use Rattle.mm_column_limits.specs.declared.row_limits.Limit.{Limit}
use Rattle.mm_column_limits.specs.declared.row_limits.Limit.TheVariants.{Name, Identifier, ContentType, Stamp}
use Rattle.mm_column_limits.specs.declared.row_limits.Limit.TheVariants.{SystemName}
use Rattle.mm_column_limits.specs.declared.row_limits.Limit.TheVariants.{Definition, Remark, Clean, CleanIfAny, NoText}
use Rattle.mm_column_limits.specs.declared.row_limits.Limit.TheVariants.{Id}
use Rattle.mm_column_limits.specs.declared.row_limits.Limit.TheVariants.{SystemNumbers, Any, SystemNumber}
use Rattle.mm_column_limits.specs.declared.row_limits.Limit.TheVariants.{SystemNumberIfAny}
use Rattle.mm_column_limits.specs.declared.row_limits.Limit.TheVariants.{Coordinate, CoordinateIfAny, PixelSize, Zoom}
use Rattle.mm_column_limits.specs.declared.row_limits.Limit.TheVariants.{MatrixSide, TileSide, TilePlace, Amount}
use Rattle.mm_column_limits.specs.declared.row_limits.Limit.TheVariants.{TileBytes}
use Rattle.mm_column_limits.specs.declared.row_limits.Limit.TheVariants.{MediaBytes}

-- ---- a column
-- it holds a text, which is UTF-8 and meets P
abbrev pub text_by : (List ℕ → Type 0) → Value → Type 0
text_by P v = MatchOption (text_bytes v) ⊥ (λ text. IsUtf8 text × P text)

-- where it holds a text, that is UTF-8 and meets P
abbrev pub text_if_any : (List ℕ → Type 0) → Value → Type 0
text_if_any P v = IfSome (text_bytes v) (λ text. IsUtf8 text × P text)

-- it holds a number, which meets P
abbrev pub number_by : (ℤ → Type 0) → Value → Type 0
number_by P v = MatchOption (number_of v) ⊥ P

-- where it holds a number, that meets P
abbrev pub number_if_any : (ℤ → Type 0) → Value → Type 0
number_if_any P v = IfSome (number_of v) P

-- it holds a blob, whose bytes meet P
abbrev pub bytes_by : (List ℕ → Type 0) → Value → Type 0
bytes_by P v = MatchOption (bytes_of v) ⊥ P

-- two columns hold the number of a system and its number at its organization, both within their limits
abbrev pub numbers_by : Option ℤ → Option ℤ → Type 0
numbers_by (Some id) (Some organization_id) = AreSystemNumbers id organization_id
numbers_by _ _ = ⊥

-- ---- the limits of columns
-- the column is within this limit
abbrev pub IsWithin : Profile → Limit → Row → ℕ → Type 0
IsWithin profile Name r at = text_by IsName (column r at)
IsWithin profile Identifier r at = text_by IsIdentifier (column r at)
IsWithin profile ContentType r at = text_by IsContentType (column r at)
IsWithin profile Stamp r at = text_by IsSomeStamp (column r at)
IsWithin profile SystemName r at = text_by IsSystemName (column r at)
IsWithin profile Definition r at = text_by IsDefinition (column r at)
IsWithin profile Remark r at = text_by IsRemark (column r at)
IsWithin profile Clean r at = text_by IsClean (column r at)
IsWithin profile CleanIfAny r at = text_if_any IsClean (column r at)
IsWithin profile NoText r at = text_bytes (column r at) ≡ Some []
IsWithin profile Id r at = number_by IsId (column r at)
IsWithin profile (SystemNumbers other) r at = numbers_by (number_of (column r at)) (number_of (column r other))
IsWithin profile Any r at = ⊤
IsWithin profile SystemNumber r at = number_by IsSystemNumber (column r at)
IsWithin profile SystemNumberIfAny r at = number_if_any IsSystemNumber (column r at)
IsWithin profile Coordinate r at = number_by (IsCoordinate profile) (column r at)
IsWithin profile CoordinateIfAny r at = number_if_any (IsCoordinate profile) (column r at)
IsWithin profile PixelSize r at = number_by (IsPixelSize profile) (column r at)
IsWithin profile Zoom r at = number_by IsZoom (column r at)
IsWithin profile MatrixSide r at = number_by IsMatrixSide (column r at)
IsWithin profile TileSide r at = number_by IsTileSide (column r at)
IsWithin profile TilePlace r at = number_by IsTilePlace (column r at)
IsWithin profile Amount r at = number_by IsAmount (column r at)
IsWithin profile TileBytes r at = bytes_by IsTileBytes (column r at)
IsWithin profile MediaBytes r at = bytes_by IsMediaBytes (column r at)

-- so are the columns from this one on, each within the next limit
abbrev pub AreWithin : Profile → List Limit → Row → ℕ → Type 0
AreWithin profile [] r at = ⊤
AreWithin profile (limit ∷ more) r at = IsWithin profile limit r at × AreWithin profile more r (at + 1)

-- so is each column of the row
abbrev pub IsWithinRow : Profile → List Limit → Row → Type 0
IsWithinRow profile limits r = AreWithin profile limits r 0
