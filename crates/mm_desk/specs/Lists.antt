-- The rows of an attribute table as JSON, the keys of each object in rising order.
use Rattle.std.specs.Prelude.{ℤ, List, map, codes}
use Rattle.serde_json.specs.Data.{Data, array, member, no_members, object, string}
use Rattle.serde_json.specs.View.{items_of}
use Rattle.serde_json.specs.Written.{compact_text}
use Rattle.mm_definitions.specs.Keys.{Text}
use Rattle.mm_definitions.specs.Package.{AttributeRow}
use Rattle.mm_page.specs.Lists.{whole_number}

-- a row with its id: the amount, the id, the note and the title
abbrev pub numbered_data : ℤ × AttributeRow → Data
numbered_data e = object (member (codes "amount") (whole_number e.1.amount) (member (codes "id") (whole_number e.0)
    (member (codes "note") (string e.1.note) (member (codes "title") (string e.1.title) no_members))))

-- the compact text of a list of rows
abbrev pub rows_text : List (ℤ × AttributeRow) → Text
rows_text rows = compact_text (array (items_of (map numbered_data rows)))
