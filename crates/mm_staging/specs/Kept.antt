-- A staged piece as its row holds it, and what a row shows of it.
use Rattle.std.specs.Prelude.{◌≡◌, ℕ, ℤ, List, [], string_bytes, Option, Some, None, ⊤}
use Rattle.std.specs.declared.vec.Vec.{Vec}
use Rattle.sqlite.specs.declared.types.Value.TheVariants.{Int, Text as Words}
use Rattle.sqlite.specs.Order.{Row, column}
use Rattle.mm_definitions.specs.Package.{PieceRow}
use Rattle.mm_store.specs.Blobs.{Shelf, StandsAt}
use Rattle.mm_store.specs.Rows.{maybe, StagedRow}
use Rattle.mm_store.specs.Kept.{Spare, piece_with}
use Rattle.mm_blobs.specs.Views.{spare_but}
use Rattle.mm_staging.specs.declared.kept.Numbers.{Numbers}
use Rattle.mm_staging.specs.declared.kept.Kept.{Kept}
use Rattle.mm_staging.specs.declared.kept.Written.{Written}

-- no bytes where there are none
abbrev pub bytes_or_none : {A : Type 0} → Option (Vec ℕ A) → List ℕ
bytes_or_none None = []
bytes_or_none (Some bytes) = bytes.items

-- the row of a piece that was read, with these bytes
abbrev pub kept_with : List ℕ → Kept → PieceRow
kept_with bytes k = record {
  kind = string_bytes k.kind;
  name = string_bytes k.name;
  k1 = k.numbers.k1;
  k2 = k.numbers.k2;
  k3 = k.numbers.k3;
  k4 = k.numbers.k4;
  k5 = k.numbers.k5;
  k6 = k.numbers.k6;
  k7 = k.numbers.k7;
  t1 = string_bytes k.t1;
  t2 = string_bytes k.t2;
  bytes = bytes;
}

-- with those that were read with it
abbrev pub kept_row : Kept → PieceRow
kept_row k = kept_with (bytes_or_none k.bytes) k

-- the entry is the row that was read, with the bytes of the blob that it names; where none was read there is no entry
abbrev pub IsKeptRow : Shelf → Option PieceRow → Option Kept → Type 0
IsKeptRow shelf entry None = entry ≡ None
IsKeptRow shelf entry (Some kept) = (bytes : List ℕ) × StandsAt shelf kept.blob bytes
    × (entry ≡ Some (kept_with bytes kept))

-- the row that is to be written
abbrev pub written_row : Written → PieceRow
written_row w = record {
  kind = w.kind.now;
  name = w.name.now;
  k1 = w.k1;
  k2 = w.k2;
  k3 = w.k3;
  k4 = w.k4;
  k5 = w.k5;
  k6 = w.k6;
  k7 = w.k7;
  t1 = w.t1.now;
  t2 = w.t2.now;
  bytes = w.bytes.now;
}

-- the numbers are those that are to be written
abbrev pub AreNumbers : Numbers → Written → Type 0
AreNumbers n w = (n.k1 ≡ w.k1) × (n.k2 ≡ w.k2) × (n.k3 ≡ w.k3) × (n.k4 ≡ w.k4) × (n.k5 ≡ w.k5) × (n.k6 ≡ w.k6)
    × (n.k7 ≡ w.k7)

-- the columns from the third on hold the numbers
pub record HasNumbers (shown : Row) (n : Numbers) : Type 0 where
  pub k1 : column shown 2 ≡ Int n.k1
  pub k2 : column shown 3 ≡ Int n.k2
  pub k3 : column shown 4 ≡ Int n.k3
  pub k4 : column shown 5 ≡ Int n.k4
  pub k5 : column shown 6 ≡ Int n.k5
  pub k6 : column shown 7 ≡ Int n.k6
  pub k7 : column shown 8 ≡ Int n.k7

-- The row shows the piece, column by column, but for its bytes.
pub record Shows (shown : Row) (r : PieceRow) : Type 0 where
  pub kind : column shown 0 ≡ Words r.kind
  pub name : column shown 1 ≡ Words r.name
  pub k1 : column shown 2 ≡ Int r.k1
  pub k2 : column shown 3 ≡ Int r.k2
  pub k3 : column shown 4 ≡ Int r.k3
  pub k4 : column shown 5 ≡ Int r.k4
  pub k5 : column shown 6 ≡ Int r.k5
  pub k6 : column shown 7 ≡ Int r.k6
  pub k7 : column shown 8 ≡ Int r.k7
  pub t1 : column shown 9 ≡ Words r.t1
  pub t2 : column shown 10 ≡ Words r.t2

-- a row that was asked for by its key shows the piece and the blob that it names, and there is none where there is no
-- piece
abbrev pub IsPieceRow : Option StagedRow → Option Row → Type 0
IsPieceRow None None = ⊤
IsPieceRow (Some r) (Some shown) = Shows shown (piece_with r []) × (column shown 11 ≡ maybe r.blob)
IsPieceRow _ _ = ⊥

-- what is written of a piece, with the blob of its bytes
abbrev pub staged_of : Written → Option ℤ → StagedRow
staged_of w blob = record {
  kind = w.kind.now;
  name = w.name.now;
  k1 = w.k1;
  k2 = w.k2;
  k3 = w.k3;
  k4 = w.k4;
  k5 = w.k5;
  k6 = w.k6;
  k7 = w.k7;
  t1 = w.t1.now;
  t2 = w.t2.now;
  blob = blob;
}

-- the blob of a piece that is named need not be spared any more
abbrev pub spare_named : Option ℤ → Spare → Spare
spare_named None spare = spare
spare_named (Some id) spare = spare_but id spare
