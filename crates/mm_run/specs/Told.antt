-- What is written of the answers, and counted.
use Rattle.std.specs.Prelude.{ℕ, ◌+◌, ◌<◌, ◌≤◌, ◌≡◌, ◌≢◌, ◌⊎◌, get_or, List, [], ◌∷◌, ◌++◌, true, Option}
use Rattle.std.specs.Prelude.{length, take}
use Rattle.std.specs.List.{concat}
use Rattle.std.specs.Io.KnownBytes.{Appends}
use Rattle.mm_definitions.specs.declared.answers.Fault.{Fault}
use Rattle.mm_definitions.specs.declared.answers.Answer.{Answer}
use Rattle.mm_definitions.specs.declared.answers.Answer.TheVariants as answers
use Rattle.mm_definitions.specs.declared.answers.Tally.{Tally}
use Rattle.mm_definitions.specs.declared.answers.RunFault.{RunFault}
use Rattle.mm_io.specs.Lines.{line, lines}
use Rattle.mm_run.specs.Applied.{IsAnswer, IsApplyFault}
use Rattle.mm_run.specs.Answers.{accepted_of, refused_of}
use Rattle.mm_definitions.specs.Faults.{input, output}
use Rattle.mm_definitions.specs.Streams.{Written}

-- a tally with one more answer
abbrev pub with_answer : Answer → Tally → Tally
with_answer answers.Ok t = record t { accepted = t.accepted + 1 }
with_answer (answers.Refused why) t = record t { refused = t.refused + 1 }
with_answer (answers.Fault fault) t = t

-- and with one more line
abbrev pub with_line : Tally → Tally
with_line t = record t { written = t.written + 1 }

-- the tally counts these answers
abbrev pub AreCounted : Tally → List Answer → Type 0
AreCounted t given = (t.accepted ≡ accepted_of given) × (t.refused ≡ refused_of given)

-- line n was written whole and flushed, and tells no fault
abbrev pub GoesOn : Written → Written → ℕ → Answer → Tally → Tally → Type 0
GoesOn old new n a t t2 = IsAnswer a × (t2 ≡ with_line (with_answer a t)) × Appends old.contents new.contents (line n a)
    × (new.failed ≡ old.failed)

-- the line of a fault was written whole, and the writer has not failed; or it did behind the line, or inside it
abbrev pub Stops : Written → Written → ℕ → Answer → Tally → RunFault → Type 0
Stops old new n a t e =
    ((a ≡ answers.Fault e.fault) × (new.failed ≡ old.failed) × (e.tally ≡ with_line (with_answer a t))
    × Appends old.contents new.contents (line n a))
    ⊎ ((e.fault.0 ≡ output.0) × (new.failed ≡ true) × (e.tally ≡ with_line (with_answer a t))
    × Appends old.contents new.contents (line n a))
    ⊎ ((e.fault.0 ≡ output.0) × (new.failed ≡ true) × (e.tally ≡ with_answer a t) × (taken : ℕ)
    × (taken < length (line n a)) × Appends old.contents new.contents (take taken (line n a)))

-- the lines of these answers were written, and all were counted
abbrev pub AreTold : List Answer → Tally → Option (List ℕ) → Option (List ℕ) → Type 0
AreTold given t old new = AreCounted t given × (t.written ≡ length given) × Appends old new (concat (lines given))

-- the first so many of some lines whole, and a front of the next
abbrev pub IsCutAt : List (List ℕ) → ℕ → List ℕ → Type 0
IsCutAt ls whole bytes = ((whole ≡ length ls) × (bytes ≡ concat ls))
    ⊎ ((whole < length ls) × (taken : ℕ) × (taken < length (get_or ls whole []))
    × (bytes ≡ concat (take whole ls) ++ take taken (get_or ls whole [])))

-- a fault that has a line of its own: of a command, or 96 of the reader
abbrev pub HasLine : ℕ → Type 0
HasLine fault = IsApplyFault fault ⊎ (fault ≡ input.0)

-- these answers, and it may be such a fault behind them
abbrev pub IsBehind : List Answer → List Answer → Type 0
IsBehind given told = (told ≡ given) ⊎ ((fault : Fault) × HasLine fault.0 × (told ≡ given ++ answers.Fault fault ∷ []))

-- What was written where a run stopped at a fault other than 97: the lines of the answers given, and the line of the
-- fault. At 97 it is a beginning of such a text, in which so many lines are whole as are counted.
abbrev pub IsStoppedText : List Answer → RunFault → Option (List ℕ) → Option (List ℕ) → Type 0
IsStoppedText given e old new =
    ((e.fault.0 ≢ output.0) × (e.tally.written ≡ length given + 1)
    × Appends old new (concat (lines (given ++ answers.Fault e.fault ∷ []))))
    ⊎ ((e.fault.0 ≡ output.0) × (told : List Answer) × IsBehind given told × (bytes : List ℕ) × Appends old new bytes
    × IsCutAt (lines told) e.tally.written bytes)

-- no more records were answered than lines written whole and one more
abbrev pub IsNear : Tally → Type 0
IsNear t = (t.accepted + t.refused ≤ t.written + 1) × (t.written ≤ t.accepted + t.refused + 1)
