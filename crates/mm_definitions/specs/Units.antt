-- Which profile a unit belongs to.
use Rattle.mm_definitions.specs.Bounds.{Profile, millimetres, micrometres}
use Rattle.mm_definitions.specs.declared.units.Unit.{Unit}
use Rattle.mm_definitions.specs.declared.units.Unit.TheVariants.{Millimetre, Micrometre}

-- the profile in which coordinates and pixel sizes are told in this unit
abbrev pub profile_of : Unit → Profile
profile_of Millimetre = millimetres
profile_of Micrometre = micrometres
