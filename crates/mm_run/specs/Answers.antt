-- What records are answered, and the package after them.
use Rattle.std.specs.Prelude.{ℕ, ◌+◌, List, [], ◌∷◌, Bool, true, false, Option, Some, None, Ok, Err, if◌then◌else◌}
use Rattle.mm_definitions.specs.Package.{Package}
use Rattle.mm_definitions.specs.Step.{refusal, step}
use Rattle.mm_definitions.specs.Runs.{Call}
use Rattle.mm_definitions.specs.Refusals.{Refusal}
use Rattle.mm_definitions.specs.declared.answers.Answer.{Answer}
use Rattle.mm_definitions.specs.declared.answers.Answer.TheVariants as answers
use Rattle.mm_run.specs.Readings.{Reading}

-- a refusal that tells no piece
abbrev pub plain : ℕ → Refusal
plain number = record { number = number; piece = None }

-- the answer to a command, by its refusal: `ok` where it has none
abbrev pub answer_of : Option Refusal → Answer
answer_of None = answers.Ok
answer_of (Some why) = answers.Refused why

-- the answer to a record on a package
abbrev pub answer_to : Package → Reading → Answer
answer_to p (Ok command) = answer_of (refusal p command)
answer_to p (Err number) = answers.Refused (plain number)

-- the package after it: a record that spells no command leaves it
abbrev pub after : Package → ℕ → Reading → Package
after p moment (Ok command) = step p command moment
after p moment (Err number) = p

-- the answers in turn, each on the package that the earlier ones left
unfoldable pub answers_to : Package → ℕ → List Reading → List Answer
answers_to p moment [] = []
answers_to p moment (reading ∷ readings) = answer_to p reading ∷ answers_to (after p moment reading) moment readings

-- the commands that were read, each at the moment
unfoldable pub calls_of : ℕ → List Reading → List Call
calls_of moment [] = []
calls_of moment (Ok command ∷ readings) = record { command = command; moment = moment } ∷ calls_of moment readings
calls_of moment (Err number ∷ readings) = calls_of moment readings

-- whether the answer is `ok`
abbrev pub is_accepted : Answer → Bool
is_accepted answers.Ok = true
is_accepted (answers.Refused why) = false
is_accepted (answers.Fault fault) = false

-- whether it is a refusal
abbrev pub is_refused : Answer → Bool
is_refused answers.Ok = false
is_refused (answers.Refused why) = true
is_refused (answers.Fault fault) = false

-- whether it is a fault
abbrev pub is_fault : Answer → Bool
is_fault answers.Ok = false
is_fault (answers.Refused why) = false
is_fault (answers.Fault fault) = true

-- how many answers are `ok`
unfoldable pub accepted_of : List Answer → ℕ
accepted_of [] = 0
accepted_of (a ∷ rest) = (if is_accepted a then 1 else 0) + accepted_of rest

-- how many are refusals
unfoldable pub refused_of : List Answer → ℕ
refused_of [] = 0
refused_of (a ∷ rest) = (if is_refused a then 1 else 0) + refused_of rest
