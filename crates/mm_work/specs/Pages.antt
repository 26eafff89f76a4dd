-- What is printed while the page is served.
use Rattle.std.specs.Prelude.{◌≡◌, ◌≤◌, ◌⊎◌, ℕ, List, [], ◌∷◌, ◌++◌, map, option_map, take, length, Option, Result, Ok}
use Rattle.std.specs.Prelude.{Err, Bool, true, false, codes, decimal, All}
use Rattle.std.specs.List.{concat}
use Rattle.std.specs.Io.KnownBytes.{Appends}
use Rattle.mm_definitions.specs.Faults as faults
use Rattle.mm_definitions.specs.declared.answers.Fault.{Fault}
use Rattle.mm_definitions.specs.declared.answers.PageFault.{PageFault}
use Rattle.mm_definitions.specs.Streams.{Written}

-- where the page is served
abbrev pub serving_text : ℕ → List ℕ
serving_text port = codes "serving 127.0.0.1:" ++ decimal port ++ codes "\n"

-- the fault of a connection
abbrev pub page_fault_text : Fault → List ℕ
page_fault_text fault = codes "page fault " ++ decimal fault.0 ++ codes "\n"

-- the fault that ended a list of a desk
abbrev pub list_fault_text : Fault → List ℕ
list_fault_text fault = codes "list fault " ++ decimal fault.0 ++ codes "\n"

-- The bytes were printed whole; or the writer has failed, behind a front of them.
abbrev pub IsPrinted : Written → Written → List ℕ → Bool → Type 0
IsPrinted old new bytes true = Appends old.contents new.contents bytes × (new.failed ≡ old.failed)
IsPrinted old new bytes false =
    (new.failed ≡ true) × (taken : ℕ) × (taken ≤ length bytes) × Appends old.contents new.contents (take taken bytes)

-- 90, 91, 92, 96 or 97
abbrev pub IsServiceFault : Fault → Type 0
IsServiceFault fault =
    (fault.0 ≡ faults.memory.0) ⊎ (fault.0 ≡ faults.store.0) ⊎ (fault.0 ≡ faults.reopen.0)
    ⊎ (fault.0 ≡ faults.input.0) ⊎ (fault.0 ≡ faults.output.0)

-- what became of a connection
abbrev pub Outcome : Type 0
Outcome = Result (Unit {0}) PageFault

-- the faults that connections met, in turn
unfoldable pub faults_of : List Outcome → List Fault
faults_of [] = []
faults_of (Ok done ∷ rest) = faults_of rest
faults_of (Err why ∷ rest) = why.0 ∷ faults_of rest

-- a line for each of them
abbrev pub fault_lines : List Outcome → List ℕ
fault_lines outcomes = concat (map page_fault_text (faults_of outcomes))

-- these are told behind those that were told before, by what tells them
abbrev pub TellsMore : Option (List Outcome) → Option (List Outcome) → List Outcome → Type 0
TellsMore old new outcomes = new ≡ option_map (λ before. before ++ outcomes) old

-- 0 where no connection met a fault, and else 3
abbrev pub service_status : List Fault → ℕ
service_status [] = 0
service_status (fault ∷ rest) = 3

-- As many connections were served as were to be, and what was printed is a line for each that met a fault; or the line
-- of the last that was served couldn't be printed whole, and 3 is answered.
abbrev pub IsServed : ℕ → List Outcome → Written → Written → ℕ → Type 0
IsServed count outcomes old new status = All IsServiceFault (faults_of outcomes)
    × (((length outcomes ≡ count) × Appends old.contents new.contents (fault_lines outcomes) × (new.failed ≡ old.failed)
    × (status ≡ service_status (faults_of outcomes)))
    ⊎ ((length outcomes ≤ count) × (new.failed ≡ true) × (status ≡ 3) × (first : List Outcome) × (why : PageFault)
    × (outcomes ≡ first ++ Err why ∷ [])
    × (taken : ℕ) × (taken ≤ length (page_fault_text why.0))
    × Appends old.contents new.contents (fault_lines first ++ take taken (page_fault_text why.0))))
