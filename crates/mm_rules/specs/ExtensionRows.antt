-- What the tests of rows of extensions ask.
use Rattle.std.specs.Prelude.{◌≡◌, ◌⊎◌, false, codes, Some, IsTrue}
use Rattle.sqlite.specs.Order.{Row, column}
use Rattle.mm_walk.specs.Columns.{text_bytes, is_there}

-- no row may be shown
abbrev pub NoRow : Row → Type 0
NoRow r = ⊥

-- an extension row of related tables, but for its table
abbrev pub IsRelated : Row → Type 0
IsRelated r = (is_there (column r 1) ≡ false) × (text_bytes (column r 2) ≡ Some (codes "gpkg_related_tables"))
    × (text_bytes (column r 3) ≡ Some (codes "OGC 18-000")) × (text_bytes (column r 4) ≡ Some (codes "read-write"))

-- an extension row of other zoom intervals, but for its table
abbrev pub IsZoomOther : Row → Type 0
IsZoomOther r = (text_bytes (column r 1) ≡ Some (codes "tile_data"))
    × (text_bytes (column r 2) ≡ Some (codes "gpkg_zoom_other"))
    × (text_bytes (column r 3) ≡ Some (codes "OGC 12-128r17")) × (text_bytes (column r 4) ≡ Some (codes "read-write"))

-- an extension row, the mapping of its table's name if one stands, and that table's kind
abbrev pub IsWantedRow : Row → Type 0
IsWantedRow r =
    ((text_bytes (column r 0) ≡ Some (codes "gpkgext_relations")) × IsRelated r)
    ⊎ (((IsTrue (is_there (column r 0)) × IsTrue (is_there (column r 5))) × IsRelated r)
    ⊎ ((IsTrue (is_there (column r 0)) × (text_bytes (column r 6) ≡ Some (codes "other"))) × IsZoomOther r))

-- an extension row that is wanted, which stands
abbrev pub IsStandingRow : Row → Type 0
IsStandingRow r = IsTrue (is_there (column r 0))

-- a kind, and the extension row that a pyramid of kind `other` wants
abbrev pub IsMarkedRow : Row → Type 0
IsMarkedRow r = text_bytes (column r 0) ≡ Some (codes "other") → IsTrue (is_there (column r 1))
