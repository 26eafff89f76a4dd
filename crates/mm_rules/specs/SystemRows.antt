-- What the test of the given systems asks.
use Rattle.std.specs.Prelude.{◌≡◌, Some}
use Rattle.sqlite.specs.Order.{Row, column}
use Rattle.sqlite.specs.declared.types.Value.{Value}
use Rattle.mm_definitions.specs.Package.{System}
use Rattle.mm_definitions.specs.Rules.{geographic, undefined_cartesian, undefined_geographic}
use Rattle.mm_walk.specs.Columns.{number_of, text_bytes}

-- five columns show this system
abbrev pub shows_by : System → Value → Value → Value → Value → Value → Type 0
shows_by s name organization organization_id definition description =
    (text_bytes name ≡ Some s.name) × (text_bytes organization ≡ Some s.organization)
    × (number_of organization_id ≡ Some s.organization_id) × (text_bytes definition ≡ Some s.definition)
    × (text_bytes description ≡ Some s.description)

-- the three given systems, five columns each
pub record IsGivenRow (r : Row) : Type 0 where
  pub geographic_is : shows_by geographic (column r 0) (column r 1) (column r 2) (column r 3) (column r 4)
  pub cartesian_is : shows_by undefined_cartesian (column r 5) (column r 6) (column r 7) (column r 8) (column r 9)
  pub undefined_is : shows_by undefined_geographic (column r 10) (column r 11) (column r 12) (column r 13) (column r 14)
