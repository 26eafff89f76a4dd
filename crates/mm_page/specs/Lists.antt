-- The lists of the page as JSON, the keys of each object in rising order.
use Rattle.std.specs.Prelude.{ℤ, List, [], Option, Some, None, map, codes, unwrap_or}
use Rattle.serde_json.specs.Data.{Data, array, member, no_members, item, no_items, number, object, string}
use Rattle.serde_json.specs.Find.{of_integer}
use Rattle.serde_json.specs.View.{items_of}
use Rattle.serde_json.specs.Written.{compact_text}
use Rattle.mm_definitions.specs.Keys.{Text}
use Rattle.mm_definitions.specs.Package.{Box}
use Rattle.mm_reads.specs.Contents.{Listed}
use Rattle.mm_reads.specs.Related.{Mate}

-- a whole number, as JSON
abbrev pub whole_number : ℤ → Data
whole_number z = number (of_integer z)

-- a text that every package that meets the rules has
abbrev pub words : Option Text → Data
words text = string (unwrap_or text [])

-- what an item is related to by one mapping row: the related id, the mapping, the relation's name and the related table
abbrev pub mate_data : Mate → Data
mate_data m = object (member (codes "id") (whole_number m.id) (member (codes "mapping") (string m.mapping)
    (member (codes "name") (words m.name) (member (codes "table") (words m.table) no_members))))

-- an extent: min_x, min_y, max_x and max_y, in micrometres
abbrev pub extent_data : Box → Data
extent_data b = array (item (whole_number b.min_x)
    (item (whole_number b.min_y) (item (whole_number b.max_x) (item (whole_number b.max_y) no_items))))

-- A pyramid has its place, and the data type `tiles`; every other table has none, and the data type `attributes`.
abbrev pub table_data_at : Listed → Option (ℤ × Box) → Data
table_data_at t None = object (member (codes "data_type") (string (codes "attributes"))
    (member (codes "identifier") (string t.identifier) (member (codes "kind") (words t.kind)
    (member (codes "last_change") (string t.last_change) (member (codes "table") (string t.table) no_members)))))
table_data_at t (Some (system, extent)) = object (member (codes "data_type") (string (codes "tiles")) (member (codes "extent") (extent_data extent)
    (member (codes "identifier") (string t.identifier) (member (codes "kind") (words t.kind)
    (member (codes "last_change") (string t.last_change)
    (member (codes "srs_id") (whole_number system) (member (codes "table") (string t.table) no_members)))))))

-- a table, with its system and its extent where it is a pyramid
abbrev pub table_data : Listed → Data
table_data t = table_data_at t t.place

-- the compact text of a list
abbrev pub mates_text : List Mate → Text
mates_text mates = compact_text (array (items_of (map mate_data mates)))

-- the compact text of the list of tables
abbrev pub tables_text : List Listed → Text
tables_text tables = compact_text (array (items_of (map table_data tables)))
