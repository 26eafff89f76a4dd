-- What the checks on extents and matrices say.
use Rattle.std.specs.Prelude.{◌<ℤ◌}
use Rattle.mm_definitions.specs.Bounds.{Profile, IsCoordinate}
use Rattle.mm_definitions.specs.Package.{Box}

-- within the limits, and not empty
pub record IsExtent (profile : Profile) (b : Box) : Type 0 where
  pub min_x : IsCoordinate profile b.min_x
  pub min_y : IsCoordinate profile b.min_y
  pub max_x : IsCoordinate profile b.max_x
  pub max_y : IsCoordinate profile b.max_y
  pub across : b.min_x <ℤ b.max_x
  pub down : b.min_y <ℤ b.max_y
