-- What the tests of rows of items, relations and mapping rows ask.
use Rattle.std.specs.Prelude.{◌≡◌, ◌⊎◌, codes, Some, IsTrue}
use Rattle.sqlite.specs.Order.{Row, column}
use Rattle.mm_walk.specs.Columns.{text_bytes, is_there}

-- the kind of the table of an attribute row
abbrev pub IsAttributesRow : Row → Type 0
IsAttributesRow r = text_bytes (column r 0) ≡ Some (codes "attributes")

-- the kind of the table of a medium
abbrev pub IsMediaRow : Row → Type 0
IsMediaRow r = text_bytes (column r 0) ≡ Some (codes "media")

-- the kinds of both ends, the columns of both, and the name of a relation
pub record IsSuitedRow (r : Row) : Type 0 where
  pub base : (text_bytes (column r 0) ≡ Some (codes "attributes")) ⊎ (text_bytes (column r 0) ≡ Some (codes "media"))
  pub related : ((text_bytes (column r 4) ≡ Some (codes "media")) × (text_bytes (column r 1) ≡ Some (codes "media")))
      ⊎ ((text_bytes (column r 4) ≡ Some (codes "simple_attributes")) × (text_bytes (column r 1) ≡ Some (codes "attributes")))
  pub base_column : text_bytes (column r 2) ≡ Some (codes "id")
  pub related_column : text_bytes (column r 3) ≡ Some (codes "id")

-- a mapping row whose relation and both ends stand, each end as a row or a medium
abbrev pub IsJoinedRow : Row → Type 0
IsJoinedRow r = IsTrue (is_there (column r 0)) × (IsTrue (is_there (column r 1)) ⊎ IsTrue (is_there (column r 2)))
    × (IsTrue (is_there (column r 3)) ⊎ IsTrue (is_there (column r 4)))
