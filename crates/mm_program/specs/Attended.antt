-- What is printed of requests that a desk answered one behind another, and the exit status that goes with it.
use Rattle.std.specs.Prelude.{◌≡◌, ◌≤◌, ◌⊎◌, ◌++◌, ⊤, ℕ, List, [], ◌∷◌, Bool, true, false, Result, Ok, Err}
use Rattle.std.specs.Prelude.{length, map, take}
use Rattle.std.specs.List.{concat}
use Rattle.std.specs.Io.KnownBytes.{Appends}
use Rattle.mm_definitions.specs.Streams.{Written}
use Rattle.mm_definitions.specs.declared.answers.PageFault.{PageFault}
use Rattle.mm_desk.specs.Told.{Told}
use Rattle.mm_desk.specs.declared.desk.Done.{Done}
use Rattle.mm_desk.specs.declared.desk.Done.TheVariants as dones
use Rattle.mm_work.specs.Pages.{IsPrinted, list_fault_text, page_fault_text}
use Rattle.mm_program.specs.declared.sittings.Turn.{Turn}
use Rattle.mm_program.specs.declared.sittings.Turn.TheVariants as turns

-- the line of a request that was not answered, or of a list that was ended; and of no other
abbrev pub text_of : Result Done PageFault → List ℕ
text_of (Err fault) = page_fault_text fault.0
text_of (Ok (dones.Ran (Err e))) = list_fault_text e.fault
text_of (Ok (dones.Ran (Ok t))) = []
text_of (Ok dones.Shown) = []
text_of (Ok dones.Ended) = []

-- the lines of requests, in turn
abbrev pub texts_of : List Told → List ℕ
texts_of all = concat (map (λ t. text_of t.result) all)

-- another comes behind it: it did not end the desk, and the list that it ran, if it did, has not failed the session
abbrev pub GoesOn : Bool → Result Done PageFault → Type 0
GoesOn failed (Ok (dones.Ran run)) = failed ≡ false
GoesOn failed (Ok dones.Shown) = ⊤
GoesOn failed (Ok dones.Ended) = ⊥
GoesOn failed (Err fault) = ⊤

-- none comes behind it: it ended the desk, or the list that it ran has failed the session
abbrev pub IsLast : Bool → Result Done PageFault → ℕ → Type 0
IsLast failed (Ok (dones.Ran run)) status = (failed ≡ true) × (status ≡ 3)
IsLast failed (Ok dones.Shown) status = ⊥
IsLast failed (Ok dones.Ended) status = status ≡ 0
IsLast failed (Err fault) status = ⊥

-- What is printed of one request: its line, if it has one; where that can't be printed whole, the desk ends.
abbrev pub TellsTurn : Bool → Result Done PageFault → Written → Written → Turn → Type 0
TellsTurn failed done old new turns.Next = GoesOn failed done × IsPrinted old new (text_of done) true
TellsTurn failed done old new (turns.Last status) =
    (IsLast failed done status × IsPrinted old new (text_of done) true)
    ⊎ (IsPrinted old new (text_of done) false × (status ≡ 3))

-- it did not end the desk
abbrev pub EndsNot : Told → Type 0
EndsNot t = GoesOn false t.result

-- each of them
unfoldable pub EndNone : List Told → Type 0
EndNone [] = ⊤
EndNone (t ∷ ts) = EndsNot t × EndNone ts

-- As many were answered as were to be, and none ended the desk; or the last did, by its answer or by a command that
-- failed; or the line of the last could not be printed whole. The lines of all stand in turn.
abbrev pub AreTold : ℕ → List Told → Bool → Written → Written → ℕ → Type 0
AreTold count all failed old new status =
    (EndNone all × (length all ≡ count) × Appends old.contents new.contents (texts_of all)
    × (new.failed ≡ old.failed) × (status ≡ 0))
    ⊎ ((first : List Told) × (last : Told) × (all ≡ first ++ last ∷ []) × EndNone first × (length all ≤ count)
    × ((IsLast failed last.result status × Appends old.contents new.contents (texts_of all) × (new.failed ≡ old.failed))
    ⊎ ((new.failed ≡ true) × (status ≡ 3) × (taken : ℕ) × (taken ≤ length (text_of last.result))
    × Appends old.contents new.contents (texts_of first ++ take taken (text_of last.result)))))
