-- A staged piece, told without its bytes, but with the blob that keeps them.
use Rattle.std.specs.Prelude.{◌≡◌, ℕ, ℤ, List, Option, Some, None, ⊤}
use Rattle.mm_definitions.specs.Package.{PieceRow}
use Rattle.mm_definitions.specs.Pieces.{piece_row}
use Rattle.mm_definitions.specs.declared.commands.Piece.{Piece}
use Rattle.mm_definitions.specs.declared.commands.Piece.TheVariants as pieces
use Rattle.mm_store.specs.Blobs.{Shelf, bytes_at}
use Rattle.mm_staging.specs.declared.outlines.Outline.{Outline}
use Rattle.mm_staging.specs.declared.outlines.Outline.TheVariants as outlines

-- the piece that puts these bytes, if it puts any
abbrev pub with_bytes : List ℕ → Outline → Piece
with_bytes bytes (outlines.Tile table place blob) = pieces.Tile table place bytes
with_bytes bytes (outlines.TileDrop table place) = pieces.TileDrop table place
with_bytes bytes (outlines.Row table id title note amount) = pieces.Row table id title note amount
with_bytes bytes (outlines.RowDrop table id) = pieces.RowDrop table id
with_bytes bytes (outlines.Media table id content_type blob) = pieces.Media table id content_type bytes
with_bytes bytes (outlines.MediaDrop table id) = pieces.MediaDrop table id
with_bytes bytes (outlines.Map mapping base_id related_id) = pieces.Map mapping base_id related_id
with_bytes bytes (outlines.MapDrop mapping base_id related_id) = pieces.MapDrop mapping base_id related_id
with_bytes bytes (outlines.Matrix table zoom matrix) = pieces.Matrix table zoom matrix

-- the blob is that of the tile or the medium; of other pieces nothing is said
abbrev pub IsBlobOf : Option ℤ → Outline → Type 0
IsBlobOf blob (outlines.Tile table place id) = blob ≡ Some id
IsBlobOf blob (outlines.Media table id content_type medium) = blob ≡ Some medium
IsBlobOf blob _ = ⊤

-- the blob of the tile or the medium stands on the shelf, and has these bytes
abbrev pub HoldsBytes : Outline → List ℕ → Shelf → Type 0
HoldsBytes (outlines.Tile table place blob) bytes shelf = bytes_at shelf blob ≡ Some bytes
HoldsBytes (outlines.Media table id content_type blob) bytes shelf = bytes_at shelf blob ≡ Some bytes
HoldsBytes _ bytes shelf = ⊤

-- The entry is the row of the piece that was told, with the bytes that it has, which are those of the piece's blob.
-- Where none was told there is no entry.
abbrev pub IsOutlined : Shelf → Option PieceRow → Option Outline → Type 0
IsOutlined shelf entry None = entry ≡ None
IsOutlined shelf entry (Some outline) = (bytes : List ℕ) × HoldsBytes outline bytes shelf
    × (entry ≡ Some (piece_row (with_bytes bytes outline)))
