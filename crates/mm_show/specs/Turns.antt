-- How the rows of a table are printed, some at a time.
use Rattle.std.specs.Prelude.{◌≡◌, ◌<◌, ℕ, ℤ, pos, ◌+ℤ◌, List, [], ◌∷◌, ◌++◌, map, length, if◌then◌else◌, Option, Some}
use Rattle.std.specs.Prelude.{None, Result, Ok, Err}
use Rattle.std.specs.Io.KnownBytes.{Appends}
use Rattle.std.specs.declared.vec.Vec.{Vec}
use Rattle.mm_definitions.specs.Keys.{Text, same_number}
use Rattle.mm_definitions.specs.Package.{Package, AttributeRow}
use Rattle.mm_definitions.specs.Streams.{Written}
use Rattle.mm_definitions.specs.declared.answers.Fault.{Fault}
use Rattle.mm_definitions.specs.declared.entries.Row.{Row as RowTold}
use Rattle.mm_definitions.specs.declared.refusals.TheConstants.{NO_ROW}
use Rattle.mm_definitions.specs.Faults.{IsStoreFault}
use Rattle.mm_reads.specs.RowLists.{MostRows, first_rows, numbered, numbered_told, rows_on}
use Rattle.mm_reads.specs.Writing.{IsBegun, ListingTellsWriter}
use Rattle.mm_show.specs.Records.{row_records}

-- the records of the rows of a table from this id on
abbrev pub records_from : Package → Text → ℤ → Text
records_from p table first = row_records table (map numbered (rows_on p table first))

-- they were printed, or a beginning of them was
abbrev pub PrintsFrom : Package → Text → ℤ → Written → Written → Result (Unit {0}) Fault → Type 0
PrintsFrom p table first old new (Ok done) = Appends old.contents new.contents (records_from p table first)
PrintsFrom p table first old new (Err fault) = IsBegun old.contents new.contents (records_from p table first)

-- There are no more rows than a read tells; or the last of them is told, with what comes behind its id.
abbrev pub TellsNext : List (ℤ × AttributeRow) → Result (Option ℤ) Fault → Type 0
TellsNext rows (Ok None) = length rows < MostRows
TellsNext rows (Ok (Some first)) = (before : List (ℤ × AttributeRow)) × (last : ℤ × AttributeRow)
    × (rows ≡ before ++ last ∷ []) × (first ≡ last.0 +ℤ pos 1)
TellsNext rows (Err fault) = IsStoreFault fault

-- these were printed, and they are all from this id on; or more are told, which come behind them
abbrev pub TurnsOn : {A : Type 0} → Package → Text → ℤ → Written → Written → Result (Option (Vec (ℤ × RowTold) A)) Fault
    → Type 0
TurnsOn p table first old new (Ok None) = Appends old.contents new.contents (records_from p table first)
TurnsOn p table first old new (Ok (Some more)) = (text : Text) × (next : ℤ) × Appends old.contents new.contents text
    × (records_from p table first ≡ text ++ records_from p table next)
    × (map numbered_told more.items ≡ first_rows p table next)
TurnsOn p table first old new (Err fault) = IsBegun old.contents new.contents (records_from p table first)

-- the first of some rows, where it has this id
abbrev pub first_at : ℤ → List (ℤ × AttributeRow) → List (ℤ × AttributeRow)
first_at id [] = []
first_at id (row ∷ rows) = if same_number row.0 id then row ∷ [] else []

-- It was printed; or the first has another id; or a beginning was printed.
abbrev pub ShowsFirst : Text → ℤ → List (ℤ × AttributeRow) → Written → Written → Result (Option ℕ) Fault → Type 0
ShowsFirst table id rows old new (Ok None) = (row : ℤ × AttributeRow) × (first_at id rows ≡ row ∷ [])
    × Appends old.contents new.contents (row_records table (first_at id rows)) × (new.failed ≡ old.failed)
ShowsFirst table id rows old new (Ok (Some number)) = (number ≡ NO_ROW) × (first_at id rows ≡ []) × (new ≡ old)
ShowsFirst table id rows old new (Err fault) = (row : ℤ × AttributeRow) × (first_at id rows ≡ row ∷ [])
    × IsBegun old.contents new.contents (row_records table (first_at id rows))
    × ListingTellsWriter old.failed new.failed (Err fault)
