-- The package of a new file.
use Rattle.std.specs.Prelude.{pos, negsuc}
use Rattle.std.specs.FinMap.{empty, insert}
use Rattle.mm_definitions.specs.Package.{Package, general_extension}
use Rattle.mm_definitions.specs.Rules.{geographic, undefined_cartesian, undefined_geographic}

-- the three given reference systems and the extension row of related tables, and nothing else
abbrev pub opening : Package
opening = record {
  systems = insert (insert (insert empty (pos 4326) geographic) (negsuc 0) undefined_cartesian) (pos 0)
      undefined_geographic;
  contents = empty;
  kinds = empty;
  sets = empty;
  matrices = empty;
  extensions = insert empty general_extension 1;
  tiles = empty;
  rows = empty;
  media = empty;
  relations = empty;
  pairings = empty;
  editions = empty;
  pieces = empty;
}
