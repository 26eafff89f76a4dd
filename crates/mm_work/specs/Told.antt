-- What is printed, and the exit status that goes with it.
use Rattle.std.specs.Prelude.{◌≡◌, ℕ, List, ◌++◌, Bool, false, true, Result, Ok, Err, codes, decimal}
use Rattle.mm_io.specs.Sending.{Sends}
use Rattle.mm_io.specs.declared.sending.Sent.{Sent}
use Rattle.mm_io.specs.declared.sending.Sent.TheVariants as sent
use Rattle.mm_work.specs.declared.stop.NoPackage.{NoPackage}
use Rattle.mm_work.specs.declared.stop.NoPackage.TheVariants as causes
use Rattle.mm_work.specs.declared.stop.Stop.{Stop}
use Rattle.mm_work.specs.declared.stop.Stop.TheVariants as stops
use Rattle.mm_definitions.specs.Streams.{Written}

-- the status where all was printed, and that of a fault else
abbrev pub status_after : Sent → ℕ → ℕ
status_after sent.Flushed status = status
status_after sent.Unflushed status = 3
status_after sent.Cut status = 3

-- The bytes were printed whole and the status is answered; or the writer failed, behind a front of them, and 3 is.
abbrev pub IsTold : Written → Written → List ℕ → ℕ → ℕ → Type 0
IsTold old new bytes status result =
    (became : Sent) × Sends old new bytes became × (result ≡ status_after became status)

-- a print that fails ends with 3
abbrev pub TellsFailure : Bool → Bool → ℕ → Type 0
TellsFailure before failed result = before ≡ false → failed ≡ true → result ≡ 3

-- ---- why the work was not done
-- the number of why a file is no package
abbrev pub no_package_number : NoPackage → ℕ
no_package_number causes.Version = 93
no_package_number causes.NoProfile = 94
no_package_number causes.BadProfile = 95
no_package_number causes.BadBlobs = 98

-- the line that tells it
abbrev pub stop_text : Stop → List ℕ
stop_text stops.NotEmpty = codes "not empty\n"
stop_text (stops.NotPackage cause) = codes "not a package " ++ decimal (no_package_number cause) ++ codes "\n"
stop_text (stops.Rule rule) = codes "rule Q" ++ decimal rule ++ codes "\n"
stop_text (stops.Fault fault) = codes "fault " ++ decimal fault.0 ++ codes "\n"

-- the exit status that goes with it: 3 for a fault, else 4
abbrev pub stop_status : Stop → ℕ
stop_status stops.NotEmpty = 4
stop_status (stops.NotPackage cause) = 4
stop_status (stops.Rule rule) = 4
stop_status (stops.Fault fault) = 3

-- ---- what making a package came to
-- the line that tells it
abbrev pub init_text : Result (Unit {0}) Stop → List ℕ
init_text (Ok done) = codes "init ok\n"
init_text (Err why) = stop_text why

-- the exit status that goes with it: 0 where the package was made
abbrev pub init_status : Result (Unit {0}) Stop → ℕ
init_status (Ok done) = 0
init_status (Err why) = stop_status why
