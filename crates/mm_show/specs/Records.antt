-- The rows of an attribute table as the records that write them.
use Rattle.std.specs.Prelude.{◌≡◌, ℤ, List, [], ◌∷◌, false, codes}
use Rattle.std.specs.List.{flat_map}
use Rattle.std.specs.Fmt.{signed_decimal}
use Rattle.csv.specs.Writing.{default_writer, fields_written, has_written, row_text, writer_setup}
use Rattle.csv.specs.declared.writer.Writer.{Writer}
use Rattle.mm_definitions.specs.Keys.{Text}
use Rattle.mm_definitions.specs.Package.{AttributeRow}

-- the fields of the record that writes a row, which has this id
abbrev pub row_fields : Text → ℤ × AttributeRow → List Text
row_fields table e = codes "row" ∷ table ∷ signed_decimal e.0 ∷ e.1.title ∷ e.1.note ∷ signed_decimal e.1.amount ∷ []

-- the record: commas between the fields, quotes where a field needs them, and a line end
abbrev pub row_record : Text → ℤ × AttributeRow → Text
row_record table e = row_text default_writer (row_fields table e)

-- the records of some rows, one behind another
abbrev pub row_records : Text → List (ℤ × AttributeRow) → Text
row_records table rows = flat_map (row_record table) rows

-- a writer of such records, at the start of one
pub record IsAtStart {W : Type 0} (records : Writer W) : Type 0 where
  pub setup : writer_setup records ≡ default_writer
  pub fields : fields_written records ≡ 0
  pub wrote : has_written records ≡ false
