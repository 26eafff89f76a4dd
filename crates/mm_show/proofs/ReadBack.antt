-- What is printed of rows is read back as the records of each.
use Rattle.std.proofs.Common.{◌≡◌, ◌+◌, ℕ, zero, suc, ℤ, List, [], ◌∷◌, map, length, refl, ap, arith, length-append}
use Rattle.std.proofs.Common.{drop}
use Rattle.std.specs.Prelude.{◌≤◌}
use Rattle.csv.specs.Machine.{next_record}
use Rattle.csv.specs.Reading.{default_config, records_from, strip_bom}
use Rattle.csv.specs.declared.parser.State.TheVariants as st
use Rattle.csv.proofs.RoundTrip.{read-write}
use Rattle.mm_definitions.specs.Keys.{Text}
use Rattle.mm_definitions.specs.Package.{AttributeRow}
use Rattle.mm_io.specs.Records.{records_of}
use Rattle.mm_show.specs.Records.{row_fields, row_record, row_records}

-- an empty text has no record
none : (fuel : ℕ) → records_from default_config fuel st.StartRecord [] ≡ []
unfolding records_from next_record
none zero = refl
none (suc n) = refl

-- as many turns as there are rows read them, and more find nothing
pub reads_rows : (table : Text) (rows : List (ℤ × AttributeRow)) (fuel : ℕ) → length rows ≤ fuel
    → records_from default_config fuel st.StartRecord (row_records table rows) ≡ map (row_fields table) rows
unfolding records_from
reads_rows table [] fuel enough = none fuel
reads_rows table (e ∷ rows) zero enough = absurd (omega (arith, enough))
reads_rows table (e ∷ rows) (suc fuel) enough =
    rw (read-write (row_fields table e) (row_records table rows))
    (ap (λ l. row_fields table e ∷ l) (reads_rows table rows fuel (omega (arith, enough))))

some_byte : (b : ℕ) (bytes : List ℕ) → 1 ≤ length (b ∷ bytes)
some_byte b bytes = omega arith

-- a record has a byte at least
long : (table : Text) (rows : List (ℤ × AttributeRow)) → length rows ≤ length (row_records table rows)
long table [] = omega arith
long table (e ∷ rows) =
    omega (
      arith,
      some_byte 114 (drop 1 (row_record table e)),
      length-append (row_record table e)
          (row_records table rows),
      long table rows,
    )

-- a record begins with no byte order mark
bare : (table : Text) (rows : List (ℤ × AttributeRow)) → strip_bom (row_records table rows) ≡ row_records table rows
unfolding strip_bom
bare table [] = refl
bare table (e ∷ rows) = refl

pub read_back : (table : Text) (rows : List (ℤ × AttributeRow))
    → records_of (row_records table rows) ≡ map (row_fields table) rows
read_back table rows = rw (bare table rows)
    (reads_rows table rows (length (row_records table rows) + 1) (omega (arith, long table rows)))
