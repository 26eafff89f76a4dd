-- What the fields of a command are limited to.
use Rattle.std.specs.Prelude.{pos, ⊤, IsTrue}
use Rattle.mm_definitions.specs.Bounds.{Profile, IsCoordinate, IsPixelSize, IsZoom, IsMatrixSide, IsTileSide}
use Rattle.mm_definitions.specs.Bounds.{IsTilePlace, IsId, IsSystemNumber, IsAmount, IsTileBytes, IsMediaBytes}
use Rattle.mm_definitions.specs.Bounds.{IsName, IsIdentifier, IsSystemName, IsDefinition, IsRemark, IsContentType}
use Rattle.mm_definitions.specs.declared.commands.Matrix.{Matrix}
use Rattle.mm_definitions.specs.declared.commands.Piece.{Piece}
use Rattle.mm_definitions.specs.declared.commands.Piece.TheVariants as pieces
use Rattle.mm_definitions.specs.declared.commands.Piece.TheVariants.{Tile, TileDrop, Row, RowDrop, Media, MediaDrop}
use Rattle.mm_definitions.specs.declared.commands.Piece.TheVariants.{Map, MapDrop}
use Rattle.mm_definitions.specs.declared.commands.Command.{Command}
use Rattle.mm_definitions.specs.declared.commands.Command.TheVariants as commands
use Rattle.mm_definitions.specs.declared.places.TilePlace.{TilePlace}

-- the six numbers of a matrix are within their limits, the pixel sizes in the profile's unit
pub record IsMatrixWithin (profile : Profile) (m : Matrix) : Type 0 where
  pub mw : IsMatrixSide (pos m.mw)
  pub mh : IsMatrixSide (pos m.mh)
  pub tw : IsTileSide (pos m.tw)
  pub th : IsTileSide (pos m.th)
  pub px : IsPixelSize profile m.px
  pub py : IsPixelSize profile m.py

-- the zoom, the column and the row of a tile are within their limits
pub record IsPlaceWithin (place : TilePlace) : Type 0 where
  pub zoom : IsZoom (pos place.zoom)
  pub column : IsTilePlace (pos place.column)
  pub row : IsTilePlace (pos place.row)

-- each field of a piece is within its limits
abbrev pub IsPieceWithin : Profile → Piece → Type 0
IsPieceWithin profile (Tile table place bytes) = IsName table × IsPlaceWithin place × IsTileBytes bytes
IsPieceWithin profile (TileDrop table place) = IsName table × IsPlaceWithin place
IsPieceWithin profile (Row table id title note amount) = IsName table × IsId id × IsRemark title × IsRemark note
    × IsAmount amount
IsPieceWithin profile (RowDrop table id) = IsName table × IsId id
IsPieceWithin profile (Media table id content_type bytes) = IsName table × IsId id × IsContentType content_type
    × IsMediaBytes bytes
IsPieceWithin profile (MediaDrop table id) = IsName table × IsId id
IsPieceWithin profile (Map mapping base_id related_id) = IsName mapping × IsId base_id × IsId related_id
IsPieceWithin profile (MapDrop mapping base_id related_id) = IsName mapping × IsId base_id × IsId related_id
IsPieceWithin profile (pieces.Matrix table zoom matrix) = IsName table × IsZoom (pos zoom)
    × IsMatrixWithin profile matrix

-- an edition of the profile can hold the piece
abbrev pub Takes : Profile → Piece → Type 0
Takes profile (pieces.Matrix table zoom matrix) = IsTrue profile.matrix_pieces
Takes profile _ = ⊤

-- each field of a command is within its limits, and what it stages is a piece that the profile takes
abbrev pub IsWithin : Profile → Command → Type 0
IsWithin profile (commands.Srs id name organization organization_id definition description) =
    IsId id × IsSystemName name × IsSystemName organization × IsId organization_id × IsDefinition definition
    × IsRemark description
IsWithin profile (commands.Pyramid table identifier srs min_x min_y max_x max_y step) =
    IsName table × IsIdentifier identifier × IsSystemNumber srs × IsCoordinate profile min_x
    × IsCoordinate profile min_y × IsCoordinate profile max_x × IsCoordinate profile max_y
IsWithin profile (commands.Table table kind identifier) = IsName table × IsIdentifier identifier
IsWithin profile (commands.Drop table) = IsName table
IsWithin profile (commands.Relation mapping base related name) = IsName mapping × IsName base × IsName related
IsWithin profile (commands.RelationDrop mapping) = IsName mapping
IsWithin profile (commands.Edition name) = IsName name
IsWithin profile (commands.Discard name) = IsName name
IsWithin profile (commands.Stage edition number piece) = IsName edition × IsId number × IsPieceWithin profile piece
    × Takes profile piece
IsWithin profile (commands.Publish edition) = IsName edition
IsWithin profile (commands.Rehearse edition) = IsName edition
IsWithin profile (commands.Edit piece) = IsPieceWithin profile piece
