-- What the page shows of a package.
use Rattle.std.specs.Prelude.{ℤ, List, Option, Some, None, map, if◌then◌else◌}
use Rattle.std.specs.FinMap.{entries}
use Rattle.mm_definitions.specs.Keys.{Text}
use Rattle.mm_definitions.specs.Package.{Package, AttributeRow}
use Rattle.mm_reads.specs.Contents.{Listed, entry_told}
use Rattle.mm_reads.specs.Related.{Mate, is_item, mapping_rows, mate}
use Rattle.mm_reads.specs.RowLists.{lists_rows, first_rows}

-- what an item is related to, by rising mapping, related table and id, where the package has the item
abbrev pub mates : Package → Text → ℤ → Option (List Mate)
mates p table id = if is_item p table id then Some (map (mate p) (mapping_rows p table id)) else None

-- the tables of the contents, by rising name
abbrev pub shown_tables : Package → List Listed
shown_tables p = map (entry_told p) (entries p.contents)

-- the first rows of an attribute table from an id on, each with its id, where the package has the table
abbrev pub shown_rows : Package → Text → ℤ → Option (List (ℤ × AttributeRow))
shown_rows p table first = if lists_rows p table then Some (first_rows p table first) else None
