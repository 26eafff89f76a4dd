-- Which rows are shown of a package, or why there are none to show.
use Rattle.std.specs.Prelude.{◌≡◌, ℕ, ℤ, List, [], ◌∷◌, if◌then◌else◌, map, Option, Some, None, Result, Ok, Err}
use Rattle.std.specs.FinMap.{get, contains_key, entries, retain_keys}
use Rattle.std.specs.Io.KnownBytes.{Appends}
use Rattle.mm_definitions.specs.Keys.{Text, Item, item, same_text}
use Rattle.mm_definitions.specs.Package.{Package, AttributeRow}
use Rattle.mm_definitions.specs.Streams.{Written}
use Rattle.mm_definitions.specs.declared.answers.Fault.{Fault}
use Rattle.mm_definitions.specs.declared.refusals.TheConstants.{ANOTHER_KIND, NO_ROW, NO_TABLE}
use Rattle.mm_reads.specs.RowLists.{lists_rows, numbered}
use Rattle.mm_reads.specs.Writing.{IsBegun, ListingTellsWriter}
use Rattle.mm_show.specs.Records.{row_records}

-- ---- which rows

-- the rows of a table, each with its id, by rising id
abbrev pub rows_of : Package → Text → List (ℤ × AttributeRow)
rows_of p table = map numbered (entries (retain_keys p.rows (λ (k : Item). same_text k.table table)))

-- a row under its id, where there is one
abbrev pub at_id : ℤ → Option AttributeRow → List (ℤ × AttributeRow)
at_id id None = []
at_id id (Some row) = (id, row) ∷ []

-- all rows of a table, or the one of the id that is given
abbrev pub rows_shown : Package → Text → Option ℤ → List (ℤ × AttributeRow)
rows_shown p table None = rows_of p table
rows_shown p table (Some id) = at_id id (get p.rows (item table id))

-- ---- why there are none

-- the table has no row of the id that is given
abbrev pub row_refusal : Package → Text → Option ℤ → Option ℕ
row_refusal p table None = None
row_refusal p table (Some id) = if contains_key p.rows (item table id) then None else Some NO_ROW

-- there is no such table, or it is of another kind
abbrev pub table_refusal : Package → Text → ℕ
table_refusal p table = if contains_key p.contents table then ANOTHER_KIND else NO_TABLE

-- the number of why nothing is shown, if so
abbrev pub show_refusal : Package → Text → Option ℤ → Option ℕ
show_refusal p table id = if lists_rows p table then row_refusal p table id else Some (table_refusal p table)

-- ---- what is printed

-- The text was printed; or a beginning of it, and the fault is 97 exactly where the output failed, and else 90 or 91.
abbrev pub IsTextPrinted : Written → Written → Text → Result (Unit {0}) Fault → Type 0
IsTextPrinted old new text (Ok done) = Appends old.contents new.contents text × (new.failed ≡ old.failed)
IsTextPrinted old new text (Err fault) = IsBegun old.contents new.contents text
    × ListingTellsWriter old.failed new.failed (Err fault)

-- some records, or none where there is nothing to show
abbrev pub records_by : Option ℕ → Text → Text
records_by None records = records
records_by (Some number) records = []

-- The records of the rows were printed; or the number of why there are none is told, and nothing was; or a fault cut
-- them short.
abbrev pub ShowsRecords : Package → Text → Option ℤ → Written → Written → Result (Option ℕ) Fault → Type 0
ShowsRecords p table id old new (Ok None) = (show_refusal p table id ≡ None)
    × Appends old.contents new.contents (row_records table (rows_shown p table id))
ShowsRecords p table id old new (Ok (Some number)) = (show_refusal p table id ≡ Some number) × (new ≡ old)
ShowsRecords p table id old new (Err fault) =
    IsBegun old.contents new.contents (records_by (show_refusal p table id) (row_records table (rows_shown p table id)))
