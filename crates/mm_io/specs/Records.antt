-- The records of some bytes, as `csv` reads them.
use Rattle.std.specs.Prelude.{◌≡◌, ◌⊎◌, ◌+◌, ◌≤◌, ℕ, List, Bool, true, false, Option, Some, None, length, ⊤}
use Rattle.csv.specs.Reading.{ReadRecord, Ready, default_config, has_failed, records, strip_bom}
use Rattle.csv.specs.Records.{Row, fields_of}
use Rattle.csv.specs.declared.reader.Reader.{Reader}
use Rattle.csv.specs.declared.reader.Trim.TheVariants as trim
use Rattle.mm_definitions.specs.Faults.{memory, input}

-- a record's fields, in order
abbrev pub Record : Type 0
Record = List (List ℕ)

-- fields behind commas, double quotes doubled inside quotes, no row of headers, nothing trimmed
abbrev pub records_of : List ℕ → List Record
records_of bytes = records default_config (strip_bom bytes)

-- a reader of such records, of any length, which hasn't failed
pub record IsSetUp {T : Type 0} (rows : Reader T) : Type 0 where
  pub config : rows.config ≡ default_config
  pub trim : rows.trim ≡ trim.None
  pub flexible : rows.flexible ≡ true
  pub ready : Ready rows
  pub working : has_failed rows ≡ false

-- the next record was read, or there is none
abbrev pub NextRow : {T : Type 0} → (T → Option (List ℕ)) → Reader T → Reader T → Option Row → Type 0
NextRow remaining old new None = (fields : Record) × ReadRecord remaining old new false fields
NextRow remaining old new (Some row) = ReadRecord remaining old new true (fields_of row)

-- why bytes weren't read: 90 want of memory, or 96 the reader, which tells it
abbrev pub IsReadFault : ℕ → Bool → Type 0
IsReadFault fault failed = (fault ≡ memory.0) ⊎ ((fault ≡ input.0) × (failed ≡ true))

-- which of the two it is: the reader's where it tells that it has failed
abbrev pub read_fault : Bool → ℕ
read_fault true = input.0
read_fault false = memory.0

-- where the reader had not failed before it has not failed since
abbrev pub WorksStill : Bool → Bool → Type 0
WorksStill before now = before ≡ false → now ≡ false

-- where the reader has failed since the fault is 96
abbrev pub TellsFailing : Bool → Bool → ℕ → Type 0
TellsFailing before now fault = before ≡ false → now ≡ true → fault ≡ input.0

-- at least so many of the known bytes were read
abbrev pub ReadAtLeast : ℕ → Option (List ℕ) → Option (List ℕ) → Type 0
ReadAtLeast n None new = ⊤
ReadAtLeast n (Some xs) None = ⊥
ReadAtLeast n (Some xs) (Some ys) = n + length ys ≤ length xs
