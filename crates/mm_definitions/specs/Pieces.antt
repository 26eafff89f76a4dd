-- A piece, and the row that holds it.
use Rattle.std.specs.Prelude.{ℕ, ℤ, pos, Bool, ◌&&◌, if◌then◌else◌, unsigned_abs, List, [], Option, Some, None, codes}
use Rattle.mm_definitions.specs.Keys.{Text, same_text, same_number}
use Rattle.mm_definitions.specs.Package.{PieceRow}
use Rattle.mm_definitions.specs.declared.commands.Piece.{Piece}
use Rattle.mm_definitions.specs.declared.commands.Piece.TheVariants.{Tile, TileDrop, Row, RowDrop, Media, MediaDrop}
use Rattle.mm_definitions.specs.declared.commands.Piece.TheVariants.{Map, MapDrop, Matrix}
use Rattle.mm_definitions.specs.declared.places.TilePlace.{TilePlace}

-- a row of this kind; the columns that matrices alone use are 0
abbrev pub piece_of : Text → Text → ℤ → ℤ → ℤ → Text → Text → List ℕ → PieceRow
piece_of kind name k1 k2 k3 t1 t2 bytes = record {
  kind = kind;
  name = name;
  k1 = k1;
  k2 = k2;
  k3 = k3;
  k4 = pos 0;
  k5 = pos 0;
  k6 = pos 0;
  k7 = pos 0;
  t1 = t1;
  t2 = t2;
  bytes = bytes;
}

-- the row that a piece is staged as, beside its edition and its number
abbrev pub piece_row : Piece → PieceRow
piece_row (Tile table place bytes) =
    piece_of (codes "tile") table (pos place.zoom) (pos place.column) (pos place.row) [] [] bytes
piece_row (TileDrop table place) =
    piece_of (codes "tile-drop") table (pos place.zoom) (pos place.column) (pos place.row) [] [] []
piece_row (Row table id title note amount) = piece_of (codes "row") table id amount (pos 0) title note []
piece_row (RowDrop table id) = piece_of (codes "row-drop") table id (pos 0) (pos 0) [] [] []
piece_row (Media table id content_type bytes) = piece_of (codes "media") table id (pos 0) (pos 0) content_type [] bytes
piece_row (MediaDrop table id) = piece_of (codes "media-drop") table id (pos 0) (pos 0) [] [] []
piece_row (Map mapping base_id related_id) = piece_of (codes "map") mapping base_id related_id (pos 0) [] [] []
piece_row (MapDrop mapping base_id related_id) = piece_of (codes "map-drop") mapping base_id related_id (pos 0) [] [] []
piece_row (Matrix table zoom m) = record {
  kind = codes "matrix";
  name = table;
  k1 = pos zoom;
  k2 = pos m.mw;
  k3 = pos m.mh;
  k4 = pos m.tw;
  k5 = pos m.th;
  k6 = m.px;
  k7 = m.py;
  t1 = [];
  t2 = [];
  bytes = [];
}

-- two rows of pieces that are equal in each column
abbrev pub same_piece : PieceRow → PieceRow → Bool
same_piece a b =
    same_text a.kind b.kind && same_text a.name b.name && same_number a.k1 b.k1 && same_number a.k2 b.k2
    && same_number a.k3 b.k3 && same_number a.k4 b.k4
    && same_number a.k5 b.k5 && same_number a.k6 b.k6 && same_number a.k7 b.k7 && same_text a.t1 b.t1
    && same_text a.t2 b.t2 && same_text a.bytes b.bytes

-- the place that the first numbers of a row give
abbrev pub place_in : PieceRow → TilePlace
place_in r = record { zoom = unsigned_abs r.k1; column = unsigned_abs r.k2; row = unsigned_abs r.k3 }

-- the piece that some columns of a row give, if its kind is known
abbrev pub piece_by_kind : PieceRow → Option Piece
piece_by_kind r =
    if same_text r.kind (codes "tile") then Some (Tile r.name (place_in r) r.bytes)
    else (if same_text r.kind (codes "tile-drop") then Some (TileDrop r.name (place_in r))
    else (if same_text r.kind (codes "row") then Some (Row r.name r.k1 r.t1 r.t2 r.k2)
    else (if same_text r.kind (codes "row-drop") then Some (RowDrop r.name r.k1)
    else (if same_text r.kind (codes "media") then Some (Media r.name r.k1 r.t1 r.bytes)
    else (if same_text r.kind (codes "media-drop") then Some (MediaDrop r.name r.k1)
    else (if same_text r.kind (codes "map") then Some (Map r.name r.k1 r.k2)
    else (if same_text r.kind (codes "map-drop") then Some (MapDrop r.name r.k1 r.k2)
    else (if same_text r.kind (codes "matrix") then Some
    (Matrix r.name (unsigned_abs r.k1) (record {
      mw = unsigned_abs r.k2;
      mh = unsigned_abs r.k3;
      tw = unsigned_abs r.k4;
      th = unsigned_abs r.k5;
      px = r.k6;
      py = r.k7;
    }))
    else None))))))))

-- where all columns are as that piece's row has them
abbrev pub if_spelled : PieceRow → Option Piece → Option Piece
if_spelled r None = None
if_spelled r (Some q) = if same_piece (piece_row q) r then Some q else None

-- the piece that a row spells, if it spells one
abbrev pub row_piece : PieceRow → Option Piece
row_piece r = if_spelled r (piece_by_kind r)
