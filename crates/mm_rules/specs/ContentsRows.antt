-- What the tests of rows of contents, kinds, matrix sets and relations ask.
use Rattle.std.specs.Prelude.{◌≡◌, ◌⊎◌, false, codes, Some, IfSome, IsTrue}
use Rattle.sqlite.specs.Order.{Row, column}
use Rattle.mm_definitions.specs.Rules.{IsPlane, IsOrdered}
use Rattle.mm_walk.specs.Columns.{number_of, text_bytes, is_there, IsPyramidKind, same_words_by}

-- a system, the same if it stands, and a kind
abbrev pub MayNameRow : Row → Type 0
MayNameRow r = IfSome (number_of (column r 0))
    (λ system. IsTrue (is_there (column r 1)) × (IsPyramidKind (column r 2) → IsPlane system))

-- the tables of two contents rows with one identifier, which are the same
abbrev pub IsSameRow : Row → Type 0
IsSameRow r = same_words_by (column r 0) (column r 1)

-- the contents row of a table, which stands
abbrev pub IsThereRow : Row → Type 0
IsThereRow r = IsTrue (is_there (column r 0))

-- the contents row under a mapping's name, which is missing
abbrev pub IsAbsentRow : Row → Type 0
IsAbsentRow r = is_there (column r 0) ≡ false

-- low and high bounds, some of which may be missing
abbrev pub IsOrderedRow : Row → Type 0
IsOrderedRow r = IsOrdered (number_of (column r 0)) (number_of (column r 2))
    × IsOrdered (number_of (column r 1)) (number_of (column r 3))

-- a kind, a contents row, and its matrix set if there is one
pub record IsPlacedRow (r : Row) : Type 0 where
  pub data_type : text_bytes (column r 1) ≡ Some (codes "tiles")
  pub there : IsTrue (is_there (column r 11))
  pub min_x : number_of (column r 2) ≡ number_of (column r 7)
  pub min_y : number_of (column r 3) ≡ number_of (column r 8)
  pub max_x : number_of (column r 4) ≡ number_of (column r 9)
  pub max_y : number_of (column r 5) ≡ number_of (column r 10)
  pub system : number_of (column r 6) ≡ number_of (column r 11)

-- a kind, a contents row without extent and system, and no matrix set
pub record IsUnplacedRow (r : Row) : Type 0 where
  pub data_type : text_bytes (column r 1) ≡ Some (codes "attributes")
  pub min_x : is_there (column r 2) ≡ false
  pub min_y : is_there (column r 3) ≡ false
  pub max_x : is_there (column r 4) ≡ false
  pub max_y : is_there (column r 5) ≡ false
  pub system : is_there (column r 6) ≡ false
  pub set : is_there (column r 11) ≡ false

-- a kind that suits the contents row: a pyramid is placed as its matrix set says, and other tables have no place
abbrev pub IsRegisteredRow : Row → Type 0
IsRegisteredRow r = (IsPyramidKind (column r 0) × IsPlacedRow r)
    ⊎ (((text_bytes (column r 0) ≡ Some (codes "attributes")) ⊎ (text_bytes (column r 0) ≡ Some (codes "media")))
    × IsUnplacedRow r)
