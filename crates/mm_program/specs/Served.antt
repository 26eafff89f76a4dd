-- What is printed while a package is served, and the exit status that goes with it.
use Rattle.std.specs.Prelude.{◌≡◌, ◌≢◌, ◌≤◌, ◌⊎◌, ℕ, List, true, false, Result, IfOk, IfErr}
use Rattle.mm_work.specs.Pages.{IsPrinted, IsServed, Outcome, serving_text}
use Rattle.mm_work.specs.Told.{IsTold, stop_status, stop_text}
use Rattle.mm_work.specs.declared.stop.Stop.{Stop}
use Rattle.mm_definitions.specs.Streams.{Written}

-- The line of the port could not be printed whole, and the status is 3; or it was, and so many connections were served.
abbrev pub IsServing : ℕ → ℕ → Written → Written → ℕ → Type 0
IsServing port count old new status =
    (IsPrinted old new (serving_text port) false × (status ≡ 3))
    ⊎ ((between : Written) × IsPrinted old between (serving_text port) true
    × (outcomes : List Outcome) × IsServed count outcomes between new status)

-- a service without a fault, by what its status says of what was printed
abbrev pub EndsWell : (Written → Written → ℕ → Type 0) → Written → Written → Type 0
EndsWell Serves old new = (status : ℕ) × (status ≢ 3) × Serves old new status

-- A service was done, with the status of a fault where the writer failed; or it was not, and nothing was printed.
abbrev pub ServiceEnds : (Written → Written → ℕ → Type 0) → Written → Written → Result ℕ Stop → Type 0
ServiceEnds Serves old new done =
    IfOk done (λ status. (status ≤ 3) × ((status ≡ 3) ⊎ (new.failed ≡ old.failed)) × Serves old new status)
    × IfErr done (λ why. new ≡ old)

-- so many connections were served, and no fault ended it
abbrev pub WasServed : ℕ → ℕ → Written → Written → Type 0
WasServed port count = EndsWell (IsServing port count)

-- nothing was printed
abbrev pub PrintsNothing : Written → Written → Type 0
PrintsNothing old new = (new.contents ≡ old.contents) × (new.failed ≡ old.failed)

-- The package was served; or why it was not is told, which is also told where the files could not be closed behind a
-- service without a fault.
abbrev pub TellsServe : ℕ → ℕ → Written → Written → ℕ → Type 0
TellsServe port count old new result =
    IsServing port count old new result
    ⊎ ((why : Stop) × (between : Written) × (PrintsNothing old between ⊎ WasServed port count old between)
    × IsTold between new (stop_text why) (stop_status why) result)
