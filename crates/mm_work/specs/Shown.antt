-- What is printed of the rows of a table, and the exit status that goes with it.
use Rattle.std.specs.Prelude.{◌≡◌, ℕ, ℤ, ◌++◌, Option, Some, None, Result, Ok, Err, codes, decimal}
use Rattle.std.specs.Io.KnownBytes.{Appends}
use Rattle.mm_definitions.specs.Keys.{Text}
use Rattle.mm_definitions.specs.Package.{Package}
use Rattle.mm_definitions.specs.Streams.{Written}
use Rattle.mm_definitions.specs.declared.answers.Fault.{Fault}
use Rattle.mm_core.specs.Writing.{IsBegun}
use Rattle.mm_show.specs.Records.{row_records}
use Rattle.mm_show.specs.Showing.{IsTextPrinted, rows_shown, show_refusal}

-- the records of the rows, or the line of the number of why there are none
abbrev pub text_by : Option ℕ → Text → Text
text_by None records = records
text_by (Some number) records = codes "refused " ++ decimal number ++ codes "\n"

-- 0, or 1 where there are none
abbrev pub status_by : Option ℕ → ℕ
status_by None = 0
status_by (Some number) = 1

-- what is printed of a table of a package, of all its rows or of the one of an id
abbrev pub shown_text : Package → Text → Option ℤ → Text
shown_text p table id = text_by (show_refusal p table id) (row_records table (rows_shown p table id))

-- the exit status that goes with it
abbrev pub shown_status : Package → Text → Option ℤ → ℕ
shown_status p table id = status_by (show_refusal p table id)

-- the line of a number was printed, with status 1; or a beginning of it was, and the output failed
abbrev pub TellsReason : Written → Written → ℕ → Result ℕ Fault → Type 0
TellsReason old new number (Ok status) = IsTextPrinted old new (text_by (Some number) (codes "")) (Ok tt) × (status ≡ 1)
TellsReason old new number (Err fault) = IsTextPrinted old new (text_by (Some number) (codes "")) (Err fault)

-- the text was printed, and its status is told; or a beginning of it was
abbrev pub TellsShownRows : Package → Text → Option ℤ → Written → Written → Result ℕ Fault → Type 0
TellsShownRows p table id old new (Ok status) =
    Appends old.contents new.contents (shown_text p table id) × (status ≡ shown_status p table id)
TellsShownRows p table id old new (Err fault) = IsBegun old.contents new.contents (shown_text p table id)
