-- What the tests of rows of tiles ask.
use Rattle.std.specs.Prelude.{ℤ, pos, ◌≤ℤ◌, ◌<ℤ◌, Option, Some}
use Rattle.sqlite.specs.Order.{Row, column}
use Rattle.mm_walk.specs.Columns.{number_of}

-- a column and row of tiles inside a matrix of this width and height
abbrev pub inside_by : Option ℤ → Option ℤ → Option ℤ → Option ℤ → Type 0
inside_by (Some c) (Some r) (Some w) (Some h) = (pos 0 ≤ℤ c) × (c <ℤ w) × (pos 0 ≤ℤ r) × (r <ℤ h)
inside_by _ _ _ _ = ⊥

-- the column and row of a tile, and the sides of the matrix at its zoom level, if one stands
abbrev pub IsInsideRow : Row → Type 0
IsInsideRow r = inside_by (number_of (column r 0)) (number_of (column r 1)) (number_of (column r 2))
    (number_of (column r 3))
