-- The contents rows of new tables.
use Rattle.std.specs.Prelude.{◌≡◌, ℤ, [], Some, None, codes}
use Rattle.std.specs.FinMap.{get}
use Rattle.mm_definitions.specs.Keys.{Text}
use Rattle.mm_definitions.specs.Package.{Package, Contents, Box}

-- the contents row of a new table that is no pyramid
abbrev pub plain_contents : Text → Text → Contents
plain_contents identifier at = record {
  data_type = codes "attributes";
  identifier = identifier;
  description = [];
  last_change = at;
  min_x = None;
  min_y = None;
  max_x = None;
  max_y = None;
  system = None;
}

-- the contents row of a new pyramid
abbrev pub pyramid_contents : Text → Text → ℤ → Box → Contents
pyramid_contents identifier at srs box = record {
  data_type = codes "tiles";
  identifier = identifier;
  description = [];
  last_change = at;
  min_x = Some box.min_x;
  min_y = Some box.min_y;
  max_x = Some box.max_x;
  max_y = Some box.max_y;
  system = Some srs;
}

-- no row of these parts has the name
abbrev pub IsUnregistered : Text → Package → Type 0
IsUnregistered table p = (get p.contents table ≡ None) × (get p.kinds table ≡ None) × (get p.sets table ≡ None)
