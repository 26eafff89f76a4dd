-- How a database keeps the bytes of a package: the entries that name blobs, and the blobs.
use Rattle.std.specs.Prelude.{◌≡◌, ◌⊎◌, ℕ, ℤ, Bool, true, false, List, Option, Some}
use Rattle.std.specs.FinMap.{FinMap, get}
use Rattle.sqlite.specs.Tree.{Trees}
use Rattle.sql_forms.specs.Maps.{Holds}
use Rattle.mm_store.specs.Tables.{mm_tiles, mm_media, mm_pieces, mm_blobs}
use Rattle.mm_definitions.specs.Keys.{tile_cmp, item_cmp, piece_cmp}
use Rattle.mm_definitions.specs.Package.{Package, Medium, PieceRow}
use Rattle.mm_store.specs.Rows.{whole, past_rowid, tile_row, MediumRow, medium_row, StagedRow, staged_row}
use Rattle.mm_store.specs.Blobs.{Blob, Shelf, AreBlobs, blob_row, Tells, NamesBlob}

-- ---- the id that an entry names, and the entry with bytes in its place

-- each tile names a blob
abbrev pub tile_id : ℤ → Option ℤ
tile_id blob = Some blob

-- a tile is its bytes and nothing else
abbrev pub tile_with : ℤ → List ℕ → List ℕ
tile_with blob bytes = bytes

-- each medium names a blob
abbrev pub medium_id : MediumRow → Option ℤ
medium_id m = Some m.blob

-- a medium is its bytes and the content type of its row
abbrev pub medium_with : MediumRow → List ℕ → Medium
medium_with m bytes = record { bytes = bytes; content_type = m.content_type }

-- a piece names a blob where it has bytes, and else none
abbrev pub piece_id : StagedRow → Option ℤ
piece_id r = r.blob

-- a piece is its bytes and the other columns of its row
abbrev pub piece_with : StagedRow → List ℕ → PieceRow
piece_with r bytes = record {
  kind = r.kind;
  name = r.name;
  k1 = r.k1;
  k2 = r.k2;
  k3 = r.k3;
  k4 = r.k4;
  k5 = r.k5;
  k6 = r.k6;
  k7 = r.k7;
  t1 = r.t1;
  t2 = r.t2;
  bytes = bytes;
}

-- ---- what is kept

-- the tiles, media and staged pieces with the ids of blobs in place of bytes, and the blobs
pub record Kept : Type 0 where
  pub tiles : FinMap tile_cmp ℤ
  pub media : FinMap item_cmp MediumRow
  pub pieces : FinMap piece_cmp StagedRow
  pub shelf : Shelf

-- a tile, a medium or a piece names the blob
abbrev pub IsNamed : Kept → ℤ → Type 0
IsNamed kept id = NamesBlob tile_id kept.tiles id
    ⊎ (NamesBlob medium_id kept.media id ⊎ NamesBlob piece_id kept.pieces id)

-- which blobs may stand though nothing names them
abbrev pub Spare : Type 0
Spare = ℤ → Bool

-- none may: every blob is named
abbrev pub no_spare : Spare
no_spare id = false

-- The four tables hold what is kept; it has the bytes of the package; and every blob is named, or may be spared.
pub record HoldsKept (spare : Spare) (tables : Trees) (kept : Kept) (p : Package) : Type 0 where
  pub tiles : Holds past_rowid tile_row (tables mm_tiles.tree) kept.tiles
  pub media : Holds past_rowid medium_row (tables mm_media.tree) kept.media
  pub pieces : Holds past_rowid staged_row (tables mm_pieces.tree) kept.pieces
  pub blobs : Holds whole blob_row (tables mm_blobs.tree) kept.shelf
  pub tiles_told : Tells tile_id tile_with kept.shelf kept.tiles p.tiles
  pub media_told : Tells medium_id medium_with kept.shelf kept.media p.media
  pub pieces_told : Tells piece_id piece_with kept.shelf kept.pieces p.pieces
  pub are : AreBlobs kept.shelf
  pub named : (id : ℤ) (b : Blob) → get kept.shelf id ≡ Some b → IsNamed kept id ⊎ (spare id ≡ true)
