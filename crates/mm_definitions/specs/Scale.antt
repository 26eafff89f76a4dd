-- A package in a unit of length that is a thousandth of its own: a millimetre's number becomes one of micrometres.
use Rattle.std.specs.Prelude.{ℤ, pos, ◌*ℤ◌, option_map}
use Rattle.mm_definitions.specs.Parts.{change_values}
use Rattle.mm_definitions.specs.Package.{Package, Contents, Box, MatrixSet, Grid}

-- how many of the smaller unit
abbrev pub finer : ℤ → ℤ
finer z = pos 1000 *ℤ z

-- a contents row with its bounds, where they stand, in the smaller unit
abbrev pub finer_contents : Contents → Contents
finer_contents c = record c {
  min_x = option_map finer c.min_x;
  min_y = option_map finer c.min_y;
  max_x = option_map finer c.max_x;
  max_y = option_map finer c.max_y;
}

-- a box in the smaller unit
abbrev pub finer_box : Box → Box
finer_box b = record { min_x = finer b.min_x; min_y = finer b.min_y; max_x = finer b.max_x; max_y = finer b.max_y }

-- a matrix set with its extent in the smaller unit
abbrev pub finer_set : MatrixSet → MatrixSet
finer_set s = record s { box = finer_box s.box }

-- a matrix with its pixel sizes in the smaller unit
abbrev pub finer_grid : Grid → Grid
finer_grid g = record g { pixel_x_size = finer g.pixel_x_size; pixel_y_size = finer g.pixel_y_size }

-- the extents, the boxes and the pixel sizes are told in the smaller unit, and all else is the same
abbrev pub scale : Package → Package
scale p = record p {
  contents = change_values finer_contents p.contents;
  sets = change_values finer_set p.sets;
  matrices = change_values finer_grid p.matrices;
}
