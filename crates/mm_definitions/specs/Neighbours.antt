-- A new matrix against the nearest lower and the nearest higher zoom of its pyramid.
use Rattle.std.specs.Prelude.{ℕ, ℤ, pos, ◌<ℤ◌, ◌≤ℤ◌, Bool, true, false, ◌&&◌, Option, Some, None}
use Rattle.mm_definitions.specs.Keys.{Text, level}
use Rattle.mm_definitions.specs.Parts.{Has, Stands}
use Rattle.mm_definitions.specs.Package.{Grid, MatricesPart}
use Rattle.mm_definitions.specs.Conditions.{suits_above, grid}
use Rattle.mm_definitions.specs.declared.commands.Matrix.{Matrix}
use Rattle.mm_definitions.specs.declared.commands.Step.{Step}
use Rattle.mm_definitions.specs.declared.commands.Step.TheVariants.{Two, Other}

-- a zoom with its matrix
pub record Zoomed : Type 0 where
  pub zoom : ℤ
  pub grid : Grid

-- the matrix at the nearest lower zoom, if there is one, and this one suit each other
abbrev pub suits_below : Bool → Option Zoomed → ℤ → Grid → Bool
suits_below halved None zoom g = true
suits_below halved (Some b) zoom g = suits_above halved b.zoom b.grid zoom g

-- this matrix and that at the nearest higher zoom, if there is one, suit each other
abbrev pub suits_over : Bool → ℤ → Grid → Option Zoomed → Bool
suits_over halved zoom g None = true
suits_over halved zoom g (Some a) = suits_above halved zoom g a.zoom a.grid

-- smaller pixels than below, larger than above; twice as large as the next, where they are to be halved
abbrev pub neighbours : Option Zoomed → ℤ → Grid → Option Zoomed → Bool → Bool
neighbours below zoom g above halved = suits_below halved below zoom g && suits_over halved zoom g above

-- the nearest lower zoom at which the table has a matrix, if there is one
abbrev pub IsNearestBelow : MatricesPart → Text → ℤ → Option Zoomed → Type 0
IsNearestBelow matrices table zoom None = (other : ℤ) → Stands matrices (level table other) → zoom ≤ℤ other
IsNearestBelow matrices table zoom (Some b) =
    Has matrices (level table b.zoom) b.grid × (b.zoom <ℤ zoom)
    × ((other : ℤ) → Stands matrices (level table other) → other <ℤ zoom → other ≤ℤ b.zoom)

-- the nearest higher
abbrev pub IsNearestAbove : MatricesPart → Text → ℤ → Option Zoomed → Type 0
IsNearestAbove matrices table zoom None = (other : ℤ) → Stands matrices (level table other) → other ≤ℤ zoom
IsNearestAbove matrices table zoom (Some a) =
    Has matrices (level table a.zoom) a.grid × (zoom <ℤ a.zoom)
    × ((other : ℤ) → Stands matrices (level table other) → zoom <ℤ other → a.zoom ≤ℤ other)

-- a zoom and its matrix as a call names them
abbrev pub zoomed : Option (ℕ × Matrix) → Option Zoomed
zoomed None = None
zoomed (Some entry) = Some (record { zoom = pos entry.0; grid = grid entry.1 })

-- a pyramid of kind `two` halves the pixel sizes from zoom to zoom
abbrev pub is_halved : Step → Bool
is_halved Two = true
is_halved Other = false
