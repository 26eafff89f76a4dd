-- What the first row of a query shows of an extent, and of a zoom with its matrix.
use Rattle.std.specs.Prelude.{◌≡◌, ◌⊎◌, ℕ, pos, Option, Some, None}
use Rattle.sqlite.specs.declared.types.Value.TheVariants.{Int}
use Rattle.sqlite.specs.Order.{Row, column}
use Rattle.mm_definitions.specs.Package.{Box}
use Rattle.mm_definitions.specs.declared.commands.Kind.{Kind}
use Rattle.mm_definitions.specs.declared.commands.Kind.TheVariants.{Attributes, Media}
use Rattle.mm_definitions.specs.declared.commands.Matrix.{Matrix}

-- the row shows the extent in its first four columns
pub record ShowsExtent (row : Row) (e : Box) : Type 0 where
  pub min_x : column row 0 ≡ Int e.min_x
  pub min_y : column row 1 ≡ Int e.min_y
  pub max_x : column row 2 ≡ Int e.max_x
  pub max_y : column row 3 ≡ Int e.max_y

-- the row shows the extent, and there is none where there is no extent
abbrev pub GivesExtent : Option Box → Option Row → Type 0
GivesExtent None first = first ≡ None
GivesExtent (Some e) first = (row : Row) × (first ≡ Some row) × ShowsExtent row e

-- the columns after the zoom
pub record ShowsMatrix (row : Row) (m : Matrix) : Type 0 where
  pub mw : column row 1 ≡ Int (pos m.mw)
  pub mh : column row 2 ≡ Int (pos m.mh)
  pub tw : column row 3 ≡ Int (pos m.tw)
  pub th : column row 4 ≡ Int (pos m.th)
  pub px : column row 5 ≡ Int m.px
  pub py : column row 6 ≡ Int m.py

-- the row shows the zoom level in its first column, and then the matrix
abbrev pub ShowsZoomed : Row → ℕ × Matrix → Type 0
ShowsZoomed row entry = (column row 0 ≡ Int (pos entry.0)) × ShowsMatrix row entry.1

-- the row shows the zoom level with its matrix, and there is none where there is no such zoom level
abbrev pub GivesZoomed : Option (ℕ × Matrix) → Option Row → Type 0
GivesZoomed None first = first ≡ None
GivesZoomed (Some entry) first = (row : Row) × (first ≡ Some row) × ShowsZoomed row entry

-- the kind of a table that is no pyramid
abbrev pub IsPlainKind : Kind → Type 0
IsPlainKind kind = (kind ≡ Attributes) ⊎ (kind ≡ Media)
