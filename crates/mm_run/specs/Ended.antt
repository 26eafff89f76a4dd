-- The run of a list on a session that has to be opened again: only records that spell no command are answered.
use Rattle.std.specs.Prelude.{ℕ, ◌<◌, ◌≡◌, get_or, List, [], ◌∷◌, ◌++◌, Bool, true, false, Option, Some, None, Result}
use Rattle.std.specs.Prelude.{Ok, Err, length, take, ⊤}
use Rattle.std.specs.List.{concat}
use Rattle.std.specs.Io.KnownBytes.{Appends}
use Rattle.csv.specs.Reading.{AreRecords, Reached, ReadRecord, default_config}
use Rattle.csv.specs.declared.parser.State.{State}
use Rattle.csv.specs.declared.reader.Reader.{Reader}
use Rattle.mm_definitions.specs.declared.commands.Command.{Command}
use Rattle.mm_definitions.specs.declared.answers.Answer.{Answer}
use Rattle.mm_definitions.specs.declared.answers.Answer.TheVariants as answers
use Rattle.mm_definitions.specs.declared.answers.ReadFault.{ReadFault}
use Rattle.mm_definitions.specs.declared.answers.ReadFault.TheVariants as faults
use Rattle.mm_definitions.specs.declared.answers.Tally.{Tally}
use Rattle.mm_definitions.specs.declared.answers.RunFault.{RunFault}
use Rattle.mm_io.specs.Lines.{lines}
use Rattle.mm_io.specs.Records.{Record, records_of}
use Rattle.mm_run.specs.Readings.{IsReadAs}
use Rattle.mm_run.specs.Answers.{plain}
use Rattle.mm_run.specs.Told.{AreCounted, AreTold, IsStoppedText}
use Rattle.mm_definitions.specs.Faults.{memory, reopen}
use Rattle.mm_definitions.specs.Streams.{Written}

-- the refusals with these numbers, as answers
unfoldable pub refusals : List ℕ → List Answer
refusals [] = []
refusals (number ∷ numbers) = answers.Refused (plain number) ∷ refusals numbers

-- each of these records spells no command, and is refused with its number
unfoldable pub AreRefused : List Record → List ℕ → Type 0
AreRefused [] [] = ⊤
AreRefused (fields ∷ rows) (number ∷ numbers) = IsReadAs fields (Err number) × AreRefused rows numbers
AreRefused _ _ = ⊥

-- behind the first so many records of the bytes stands one that spells a command
abbrev pub SpellsNext : List ℕ → ℕ → Type 0
SpellsNext bytes count = (count < length (records_of bytes)) × (command : Command)
    × IsReadAs (get_or (records_of bytes) count []) (Ok command)

-- No record of the bytes spells a command; the line of each tells its refusal, and so many are counted.
pub record EndedAll (bytes : List ℕ) (old new : Written) (t : Tally) : Type 0 where
  pub numbers : List ℕ
  pub read : AreRefused (records_of bytes) numbers
  pub text : Appends old.contents new.contents (concat (lines (refusals numbers)))
  pub accepted : t.accepted ≡ 0
  pub refused : t.refused ≡ length numbers
  pub written : t.written ≡ length numbers

-- The first records spell no command, and are answered with their refusals. The fault is 92 only where the next one
-- spells a command.
pub record EndedSome (bytes : List ℕ) (old new : Written) (e : RunFault) : Type 0 where
  pub numbers : List ℕ
  pub read : AreRefused (take (length numbers) (records_of bytes)) numbers
  pub text : IsStoppedText (refusals numbers) e old.contents new.contents
  pub accepted : e.tally.accepted ≡ 0
  pub refused : e.tally.refused ≡ length numbers
  pub next : e.fault.0 ≡ reopen.0 → SpellsNext bytes (length numbers)

-- by the writer before and after
abbrev pub RanEnded : List ℕ → Written → Written → Result Tally RunFault → Type 0
RanEnded bytes old new (Ok t) = EndedAll bytes old new t
RanEnded bytes old new (Err e) = EndedSome bytes old new e

-- what holds for a session that had to be opened again, and for the bytes that the reader had still to give
abbrev pub OnEnded : Bool → Option (List ℕ) → (List ℕ → Type 0) → Type 0
OnEnded before source P = before ≡ true → (bytes : List ℕ) → source ≡ Some bytes → P bytes

-- ---- inside a run
-- the answer to a record that was not read as a command: its refusal, or 90 where there was no memory to read it
abbrev pub answer_unread : ReadFault → Answer
answer_unread (faults.Refused why) = answers.Refused why
answer_unread faults.Memory = answers.Fault memory

-- the answer to what was read of a record: 92 to a command
abbrev pub ended_answer : Result Command ReadFault → Answer
ended_answer (Ok command) = answers.Fault reopen
ended_answer (Err fault) = answer_unread fault

-- the answer to a record: its refusal where it spells no command, and 92 only where it spells one
abbrev pub IsEnded : Record → Answer → Type 0
IsEnded fields answers.Ok = ⊥
IsEnded fields (answers.Refused why) = (number : ℕ) × (why ≡ plain number) × IsReadAs fields (Err number)
IsEnded fields (answers.Fault fault) = fault.0 ≡ reopen.0 → (command : Command) × IsReadAs fields (Ok command)

-- a record was read and answered so, or couldn't be read, or the end was reached
abbrev pub IsEndedTurn : {T : Type 0} → (T → Option (List ℕ)) → Reader T → Reader T → Option Answer → Type 0
IsEndedTurn remaining old new None = (fields : Record) × ReadRecord remaining old new false fields
IsEndedTurn remaining old new (Some answers.Ok) = ⊥
IsEndedTurn remaining old new (Some (answers.Refused why)) = (fields : Record)
    × ReadRecord remaining old new true fields × IsEnded fields (answers.Refused why)
IsEndedTurn remaining old new (Some (answers.Fault fault)) =
    fault.0 ≡ reopen.0 → (fields : Record) × ReadRecord remaining old new true fields
    × (command : Command) × IsReadAs fields (Ok command)

-- the record behind these spells a command
abbrev pub IsReadNext : List ℕ → State → List Record → Type 0
IsReadNext xs s rows = (fields : Record) × (command : Command) × (s2 : State) × (rest : List ℕ)
    × Reached default_config s xs (rows ++ fields ∷ []) s2 rest × IsReadAs fields (Ok command)

-- the records so far are these, refused so and told so; the reader stands behind them
pub record AreRefusedSoFar (xs : List ℕ) (s : State) (source : Option (List ℕ)) (s2 : State) (t : Tally)
    (old new : Option (List ℕ)) : Type 0 where
  pub numbers : List ℕ
  pub rows : List Record
  pub rest : List ℕ
  pub here : source ≡ Some rest
  pub reached : Reached default_config s xs rows s2 rest
  pub read : AreRefused rows numbers
  pub told : AreTold (refusals numbers) t old new

-- the records are these, to the end
pub record AreAllRefused (xs : List ℕ) (s : State) (t : Tally) (old new : Option (List ℕ)) : Type 0 where
  pub numbers : List ℕ
  pub rows : List Record
  pub are : AreRecords default_config s xs rows
  pub read : AreRefused rows numbers
  pub told : AreTold (refusals numbers) t old new

-- the first records are these, and the run stopped behind them
pub record IsEndedAt (xs : List ℕ) (s : State) (e : RunFault) (old new : Option (List ℕ)) : Type 0 where
  pub numbers : List ℕ
  pub rows : List Record
  pub state : State
  pub rest : List ℕ
  pub reached : Reached default_config s xs rows state rest
  pub read : AreRefused rows numbers
  pub counted : AreCounted e.tally (refusals numbers)
  pub text : IsStoppedText (refusals numbers) e old new
  pub next : e.fault.0 ≡ reopen.0 → IsReadNext xs s rows

-- the records of these bytes, from a state of the reader
abbrev pub IsEndedRun : List ℕ → State → Written → Written → Result Tally RunFault → Type 0
IsEndedRun xs s old new (Ok t) = AreAllRefused xs s t old.contents new.contents
IsEndedRun xs s old new (Err e) = IsEndedAt xs s e old.contents new.contents
