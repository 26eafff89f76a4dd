-- What a reader answers of a text.
use Rattle.std.specs.Prelude.{◌≡◌, ℕ, ◌⊎◌, List, None, Result, Ok, Err, IsErr, ⊤, if◌then◌else◌, nat_le}
use Rattle.hex.specs.Hex.{decode_of}
use Rattle.mm_definitions.specs.Bounds.{IsLong}
use Rattle.mm_definitions.specs.declared.answers.ReadFault.{ReadFault}
use Rattle.mm_definitions.specs.declared.answers.ReadFault.TheVariants as faults
use Rattle.mm_definitions.specs.declared.answers.Outcome.{Outcome}
use Rattle.mm_definitions.specs.declared.answers.Outcome.TheVariants as outcomes
use Rattle.mm_definitions.specs.declared.refusals.TheConstants.{NO_SUCH_RECORD, OUT_OF_LIMITS}

-- the value, the number that holds against the text, or want of memory
abbrev pub ReadsTo : {A : Type 0} → (A → Type 0) → (ℕ → Type 0) → Result A ReadFault → Type 0
ReadsTo IsValue HoldsAgainst (Ok value) = IsValue value
ReadsTo IsValue HoldsAgainst (Err (faults.Refused refusal)) = (refusal.piece ≡ None) × HoldsAgainst refusal.number
ReadsTo IsValue HoldsAgainst (Err faults.Memory) = ⊤

-- a text is its own value, where it is within its limits
abbrev pub reads_text : (List ℕ → Type 0) → List ℕ → List ℕ → Type 0
reads_text IsWithin text value = (value ≡ text) × IsWithin text

-- the wanted number, against a text that is outside its limits
abbrev pub refuses_unless : (List ℕ → Type 0) → ℕ → List ℕ → ℕ → Type 0
refuses_unless IsWithin wanted text number = (number ≡ wanted) × ¬ (IsWithin text)

-- bytes are spelled by hexadecimal digits of either case
abbrev pub reads_bytes : ℕ → List ℕ → List ℕ → Type 0
reads_bytes most text bytes = (decode_of text ≡ Ok bytes) × IsLong 1 most bytes

-- 10 against a text that isn't bytes in hexadecimal digits, 11 against no bytes and against more than the most
abbrev pub refuses_bytes : ℕ → List ℕ → ℕ → Type 0
refuses_bytes most text number =
    ((number ≡ NO_SUCH_RECORD) × IsErr (decode_of text))
    ⊎ ((number ≡ OUT_OF_LIMITS) × (bytes : List ℕ) × (decode_of text ≡ Ok bytes) × ¬ (IsLong 1 most bytes))

-- a number against a record, and no piece
abbrev pub refused : ℕ → ReadFault
refused number = faults.Refused (record { number = number; piece = None })

-- a number against a command, and no piece
abbrev pub outcome_refused : ℕ → Outcome
outcome_refused number = outcomes.Refused (record { number = number; piece = None })

-- the least of two refusals; want of memory goes before both
abbrev pub least_fault : ReadFault → ReadFault → ReadFault
least_fault faults.Memory other = faults.Memory
least_fault (faults.Refused one) faults.Memory = faults.Memory
least_fault (faults.Refused one) (faults.Refused other) = faults.Refused (if nat_le one.number other.number then one
    else other)

-- both values, or the fault that is against one of them, the least where both have one
abbrev pub both_of : {A B : Type 0} → Result A ReadFault → Result B ReadFault → Result (A × B) ReadFault
both_of (Ok a) (Ok b) = Ok (a, b)
both_of (Ok a) (Err fault) = Err fault
both_of (Err fault) (Ok b) = Err fault
both_of (Err one) (Err other) = Err (least_fault one other)
