-- What the tests of rows of matrices ask.
use Rattle.std.specs.Prelude.{◌≡◌, ℤ, pos, ◌<ℤ◌, ◌+ℤ◌, ◌-ℤ◌, ◌*ℤ◌, codes, Option, Some}
use Rattle.sqlite.specs.Order.{Row, column}
use Rattle.mm_walk.specs.Columns.{number_of, text_bytes, IsPyramidKind}

-- an extent from low to high is covered by so many tiles of so many pixels of this size
abbrev pub covered_by : Option ℤ → Option ℤ → Option ℤ → Option ℤ → Option ℤ → Type 0
covered_by (Some low) (Some high) (Some tiles) (Some pixels) (Some size) = high -ℤ low ≡ (tiles *ℤ pixels) *ℤ size
covered_by _ _ _ _ _ = ⊥

-- a kind, the extent of a matrix set, and a matrix
pub record IsFittingRow (r : Row) : Type 0 where
  pub kind : IsPyramidKind (column r 0)
  pub across : covered_by (number_of (column r 1)) (number_of (column r 3)) (number_of (column r 5))
      (number_of (column r 7)) (number_of (column r 9))
  pub down : covered_by (number_of (column r 2)) (number_of (column r 4)) (number_of (column r 6))
      (number_of (column r 8)) (number_of (column r 10))

-- the pixel sizes of two matrices, the one at the lower zoom first
abbrev pub finer_by : Option ℤ → Option ℤ → Option ℤ → Option ℤ → Type 0
finer_by (Some low_x) (Some low_y) (Some high_x) (Some high_y) = (high_x <ℤ low_x) × (high_y <ℤ low_y)
finer_by _ _ _ _ = ⊥

-- the pixel sizes of two matrices of a pyramid, x and y of the one at the lower zoom level first
abbrev pub IsFinerRow : Row → Type 0
IsFinerRow r = finer_by (number_of (column r 0)) (number_of (column r 1)) (number_of (column r 2))
    (number_of (column r 3))

-- the second zoom is the one after the first
abbrev pub next_by : Option ℤ → Option ℤ → Type 0
next_by (Some low) (Some high) = high ≡ low +ℤ pos 1
next_by _ _ = ⊥

-- the pixel sizes of two matrices, of which the first are twice the second
abbrev pub halved_by : Option ℤ → Option ℤ → Option ℤ → Option ℤ → Type 0
halved_by (Some low_x) (Some low_y) (Some high_x) (Some high_y) = (low_x ≡ pos 2 *ℤ high_x) × (low_y ≡ pos 2 *ℤ high_y)
halved_by _ _ _ _ = ⊥

-- a kind, two zooms, and the pixel sizes at them
abbrev pub IsHalvedRow : Row → Type 0
IsHalvedRow r = text_bytes (column r 0) ≡ Some (codes "two") → next_by (number_of (column r 1)) (number_of (column r 2))
    → halved_by (number_of (column r 3)) (number_of (column r 4)) (number_of (column r 5)) (number_of (column r 6))
