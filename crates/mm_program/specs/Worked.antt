-- What work on a file comes to, by what was printed before and then is, and behind what the files are closed.
use Rattle.std.specs.Prelude.{◌≡◌, ◌≤◌, ◌⊎◌, ◌==◌, ⊤, ℕ, Bool, true, false, not, Result, Ok, Err, IfOk, IfErr}
use Rattle.mm_definitions.specs.Streams.{Written}
use Rattle.mm_definitions.specs.declared.answers.KitFault.{KitFault}
use Rattle.mm_definitions.specs.declared.answers.Staged.{Staged}
use Rattle.mm_files.specs.Worked.{closes_behind}
use Rattle.mm_work.specs.Told.{stop_status}
use Rattle.mm_work.specs.declared.stop.Stop.{Stop}
use Rattle.mm_program.specs.Served.{IsServing, ServiceEnds}

-- ---- behind what the files are closed

-- work that was done
abbrev pub closes_done : Result (Unit {0}) Stop → Bool
closes_done = closes_behind (λ done. true)

-- a status that is not that of a fault
abbrev pub is_well : ℕ → Bool
is_well status = not (status == 3)

-- work that was done with such a one
abbrev pub closes_run : Result ℕ Stop → Bool
closes_run = closes_behind is_well

-- an import that no fault ended
abbrev pub is_answered : Result Staged KitFault → Bool
is_answered (Ok staged) = true
is_answered (Err stopped) = false

-- work that came to such a one
abbrev pub closes_import : Result (Result Staged KitFault) Stop → Bool
closes_import = closes_behind is_answered

-- ---- what it comes to

-- The work was done, with the status of a fault where the writer failed; or why it was not is a fault, or nothing was
-- printed.
abbrev pub StatusEnds : {T : Type 0} → (T → ℕ) → Written → Written → Result T Stop → Type 0
StatusEnds status old new done =
    IfOk done (λ it. (status it ≤ 3) × ((status it ≡ 3) ⊎ (new.failed ≡ old.failed)))
    × IfErr done (λ why. (new ≡ old) ⊎ (stop_status why ≡ 3))

-- rows of a table were shown, with 0 or 1; or why they were not is a fault, or nothing was printed
abbrev pub ShowingEnds : Written → Written → Result ℕ Stop → Type 0
ShowingEnds old new done =
    IfOk done (λ status. (status ≤ 1) × (new.failed ≡ old.failed))
    × IfErr done (λ why. (new ≡ old) ⊎ (stop_status why ≡ 3))

-- records were answered, or none was, and then nothing was printed
abbrev pub RunEnds : Written → Written → Result ℕ Stop → Type 0
RunEnds = ServiceEnds (λ old new status. ⊤)

-- the page was served to so many connections, or was not
abbrev pub IsPageServed : ℕ → ℕ → Written → Written → Result ℕ Stop → Type 0
IsPageServed port count = ServiceEnds (IsServing port count)
