-- The run of a list of records.
use Rattle.std.specs.Prelude.{ℕ, ◌+◌, ◌≡◌, ◌≢◌, ◌⊎◌, List, [], ◌∷◌, ◌++◌, Bool, true, false, Option, Some, None, Result}
use Rattle.std.specs.Prelude.{Ok, Err, length, take}
use Rattle.std.specs.List.{concat}
use Rattle.std.specs.Io.KnownBytes.{Appends}
use Rattle.csv.specs.Reading.{AreRecords, Reached, ReadRecord, default_config}
use Rattle.csv.specs.declared.parser.State.{State}
use Rattle.csv.specs.declared.reader.Reader.{Reader}
use Rattle.mm_definitions.specs.Bounds.{current}
use Rattle.mm_definitions.specs.Faults.{store, reopen, input, output}
use Rattle.mm_definitions.specs.Package.{Package}
use Rattle.mm_definitions.specs.Rules.{Meets}
use Rattle.mm_definitions.specs.Runs.{Call, run, IsFirstPart}
use Rattle.mm_definitions.specs.Step.{step}
use Rattle.mm_definitions.specs.declared.commands.Command.{Command}
use Rattle.mm_definitions.specs.declared.answers.Answer.{Answer}
use Rattle.mm_definitions.specs.declared.answers.Answer.TheVariants as answers
use Rattle.mm_definitions.specs.declared.answers.Tally.{Tally}
use Rattle.mm_definitions.specs.declared.answers.RunFault.{RunFault}
use Rattle.mm_io.specs.Lines.{lines}
use Rattle.mm_io.specs.Records.{Record, TellsFailing, WorksStill, records_of}
use Rattle.mm_run.specs.Readings.{Reading, IsReadAs, AreReadAs}
use Rattle.mm_run.specs.Answers.{answer_to, after, answers_to, calls_of, accepted_of}
use Rattle.mm_run.specs.Shown.{Shown}
use Rattle.mm_run.specs.Applied.{IsSound, LeavesEither, IsApplyFault}
use Rattle.mm_run.specs.Told.{AreCounted, AreTold, IsStoppedText}
use Rattle.mm_definitions.specs.Streams.{Written}

-- a fault that has a line of its own: of a command, or of the reader, which tells it
abbrev pub IsRunFault : ℕ → Bool → Type 0
IsRunFault fault failed = IsApplyFault fault ⊎ ((fault ≡ input.0) × (failed ≡ true))

-- Each database that may be left stands for a first part of these calls, of which so many were acknowledged; and that
-- package meets the rules.
abbrev pub AreFirstParts : {D : Type 0} → Shown D → Package → List Call → ℕ → Type 0
AreFirstParts {D} shows p calls acknowledged =
    (db : D) → shows.may_leave db → (q : Package) × shows.stands_for db q × IsFirstPart p calls acknowledged q
    × Meets current q

-- the answers that were given: those to the records that were counted
abbrev pub given_of : Package → ℕ → List Reading → Tally → List Answer
given_of p moment readings t = answers_to p moment (take (t.accepted + t.refused) readings)

-- how many `ok` lines were written whole
abbrev pub acknowledged_of : Package → ℕ → List Reading → Tally → ℕ
acknowledged_of p moment readings t = accepted_of (take t.written (given_of p moment readings t))

-- Where a run stopped. All that was read was answered, and the session works on with the package after it; or one more
-- command was read, and has failed.
abbrev pub StopsBehind : (Package → Type 0) → Type 0 → Package → ℕ → List Reading → ℕ → Type 0
StopsBehind works failed p moment readings answered =
    ((length readings ≡ answered) × works (run p (calls_of moment readings)))
    ⊎ (failed × (first : List Reading) × (command : Command) × (readings ≡ first ++ Ok command ∷ [])
    × (length first ≡ answered))

-- the session works as it did, settled for this package
abbrev pub WorksOn : {D : Type 0} → Bool → Shown D → Package → Type 0
WorksOn before shows p = (shows.failed ≡ before) × IsSound shows.settled p

-- What holds for a package that the session was settled for and for the bytes that the reader had still to give, where
-- the store was clean.
abbrev pub OnRun : Type 0 → (Package → Type 0) → Option (List ℕ) → (Package → List ℕ → Type 0) → Type 0
OnRun clean settled source P = clean → (p : Package) → IsSound settled p → (bytes : List ℕ) → source ≡ Some bytes
    → P p bytes

-- What holds for a package of the rules that the session was settled for, where the store was clean, whatever the
-- reader tells.
abbrev pub OnSound : Type 0 → (Package → Type 0) → (Package → Type 0) → Type 0
OnSound clean settled P = clean → (p : Package) → IsSound settled p → P p

-- Each database that may be left stands for a package that meets the rules; and a session that has not failed in
-- between is settled for one.
abbrev pub IsKept : {D : Type 0} → Bool → Shown D → Type 0
IsKept {D} before shows =
    ((db : D) → shows.may_leave db → (q : Package) × shows.stands_for db q × Meets current q)
    × (shows.failed ≡ before → (q : Package) × IsSound shows.settled q)

-- A run without a fault: each record of the bytes is answered, and all that is accepted stands.
pub record RanAll {D : Type 0} (p : Package) (moment : ℕ) (bytes : List ℕ) (shows : Shown D) (old new : Written)
    (t : Tally) : Type 0 where
  pub readings : List Reading
  pub read : AreReadAs (records_of bytes) readings
  pub text : Appends old.contents new.contents (concat (lines (answers_to p moment readings)))
  pub counted : AreCounted t (answers_to p moment readings)
  pub all : t.accepted + t.refused ≡ length (records_of bytes)
  pub written : t.written ≡ length (records_of bytes)
  pub stands : IsSound shows.settled (run p (calls_of moment readings))
  pub left : AreFirstParts shows p (calls_of moment readings) t.accepted

-- A run with a fault: the first records are answered, and what may be left is a first part of what was read.
pub record RanSome {D : Type 0} (p : Package) (moment : ℕ) (bytes : List ℕ) (works : Package → Type 0) (failed : Type 0)
    (shows : Shown D) (old new : Written) (e : RunFault) : Type 0 where
  pub readings : List Reading
  pub read : AreReadAs (take (length readings) (records_of bytes)) readings
  pub text : IsStoppedText (given_of p moment readings e.tally) e old.contents new.contents
  pub counted : AreCounted e.tally (given_of p moment readings e.tally)
  pub session : StopsBehind works failed p moment readings (e.tally.accepted + e.tally.refused)
  pub left : AreFirstParts shows p (calls_of moment readings) (acknowledged_of p moment readings e.tally)

-- What a run tells of a session that has to be opened again. One that had to before is the same after the run, and
-- accepted nothing; 92 comes only there, and after 91 it has to.
abbrev pub RunTellsReopening : Bool → Bool → Type 0 → Result Tally RunFault → Type 0
RunTellsReopening before failed same (Ok t) = (failed ≡ before) × (before ≡ true → same × (t.accepted ≡ 0))
RunTellsReopening before failed same (Err e) =
    (e.fault.0 ≡ reopen.0 → before ≡ true) × (e.fault.0 ≡ store.0 → (before ≡ false) × (failed ≡ true))
    × (e.fault.0 ≡ input.0 → failed ≡ before) × (before ≡ true → same × (e.tally.accepted ≡ 0))

-- 97 is told where the writer has failed, and any other fault only where it has not failed in this run.
abbrev pub TellsWriter : Bool → Bool → RunFault → Type 0
TellsWriter before failed e = (e.fault.0 ≡ output.0 → failed ≡ true) × (e.fault.0 ≢ output.0 → failed ≡ before)

-- What a run tells of a reader that had not failed before: without a fault it has not failed since, and where it has
-- the fault is 96, or 97 where the writer failed too.
abbrev pub TellsReader : Bool → Bool → Result Tally RunFault → Type 0
TellsReader before failed (Ok t) = WorksStill before failed
TellsReader before failed (Err e) = before ≡ false → failed ≡ true → (e.fault.0 ≡ input.0) ⊎ (e.fault.0 ≡ output.0)

-- Where a fault stopped a run: each of these answers was counted and told, with the line of the fault behind them; at
-- 97 up to the line that was cut.
pub record IsStopped (given : List Answer) (e : RunFault) (old new : Written) : Type 0 where
  pub counted : AreCounted e.tally given
  pub all : e.tally.accepted + e.tally.refused ≡ length given
  pub text : IsStoppedText given e old.contents new.contents
  pub writer : TellsWriter old.failed new.failed e

-- What a run told, whatever it was of: the lines of some answers, as many as are counted and as lines were written
-- whole; or it was stopped by a fault.
abbrev pub IsToldOf : Written → Written → Result Tally RunFault → Type 0
IsToldOf old new (Ok t) = (given : List Answer) × AreTold given t old.contents new.contents
    × (t.accepted + t.refused ≡ t.written)
IsToldOf old new (Err e) = (given : List Answer) × IsStopped given e old new

-- All that was written was flushed, where it was before; after a fault, where that is not the writer's.
abbrev pub TellsFlush : Bool → Bool → Result Tally RunFault → Type 0
TellsFlush before flushed (Ok t) = before ≡ true → flushed ≡ true
TellsFlush before flushed (Err e) = e.fault.0 ≢ output.0 → flushed ≡ true

-- ---- inside a run
-- the answer to a record, and what then is settled or may be left
abbrev pub IsAnswered : {D : Type 0} → Record → Package → ℕ → Bool → Answer → Shown D → Type 0
IsAnswered fields p moment before (answers.Fault fault) shows =
    WorksOn before shows p
    ⊎ ((shows.failed ≡ true) × (command : Command) × IsReadAs fields (Ok command)
    × Meets current (step p command moment) × LeavesEither shows p command moment)
IsAnswered fields p moment before answers.Ok shows =
    (reading : Reading) × IsReadAs fields reading × (answers.Ok ≡ answer_to p reading)
    × IsSound shows.settled (after p moment reading)
IsAnswered fields p moment before (answers.Refused why) shows =
    (reading : Reading) × IsReadAs fields reading × (answers.Refused why ≡ answer_to p reading)
    × IsSound shows.settled (after p moment reading)

-- what one turn tells of a reader
abbrev pub TellsTurn : Bool → Bool → Option Answer → Type 0
TellsTurn before failed None = WorksStill before failed
TellsTurn before failed (Some answers.Ok) = WorksStill before failed
TellsTurn before failed (Some (answers.Refused why)) = WorksStill before failed
TellsTurn before failed (Some (answers.Fault fault)) = TellsFailing before failed fault.0

-- a record was read and answered, or couldn't be read, or the end was reached
abbrev pub Turns : {D T : Type 0} → (T → Option (List ℕ)) → Reader T → Reader T → Package → ℕ → Bool → Option Answer
    → Shown D → Type 0
Turns remaining old new p moment before None shows = (fields : Record) × ReadRecord remaining old new false fields
    × IsSound shows.settled p
Turns remaining old new p moment before (Some answers.Ok) shows =
    (fields : Record) × ReadRecord remaining old new true fields × IsAnswered fields p moment before answers.Ok shows
Turns remaining old new p moment before (Some (answers.Refused why)) shows =
    (fields : Record) × ReadRecord remaining old new true fields
    × IsAnswered fields p moment before (answers.Refused why) shows
Turns remaining old new p moment before (Some (answers.Fault fault)) shows =
    WorksOn before shows p ⊎ ((fields : Record) × ReadRecord remaining old new true fields
    × IsAnswered fields p moment before (answers.Fault fault) shows)

-- the records so far are these, read so and answered so; the package after them is settled, and the reader stands
-- behind them
pub record IsSoFar (p : Package) (moment : ℕ) (xs : List ℕ) (s : State) (source : Option (List ℕ)) (s2 : State)
    (settled : Package → Type 0) (given : List Answer) : Type 0 where
  pub rows : List Record
  pub rest : List ℕ
  pub here : source ≡ Some rest
  pub reached : Reached default_config s xs rows s2 rest
  pub readings : List Reading
  pub read : AreReadAs rows readings
  pub were : given ≡ answers_to p moment readings
  pub stands : IsSound settled (run p (calls_of moment readings))

-- the records are these, to the end
pub record IsAll (p : Package) (moment : ℕ) (xs : List ℕ) (s : State) (settled : Package → Type 0)
    (given : List Answer) : Type 0 where
  pub rows : List Record
  pub are : AreRecords default_config s xs rows
  pub readings : List Reading
  pub read : AreReadAs rows readings
  pub were : given ≡ answers_to p moment readings
  pub stands : IsSound settled (run p (calls_of moment readings))

-- the first records are these, the first answers those given, and so much may be left
pub record IsSome {D : Type 0} (p : Package) (moment : ℕ) (xs : List ℕ) (s : State) (before : Bool) (shows : Shown D)
    (given : List Answer) (written : ℕ) : Type 0 where
  pub rows : List Record
  pub state : State
  pub rest : List ℕ
  pub reached : Reached default_config s xs rows state rest
  pub readings : List Reading
  pub read : AreReadAs rows readings
  pub were : given ≡ answers_to p moment (take (length given) readings)
  pub session : StopsBehind (WorksOn before shows) (shows.failed ≡ true) p moment readings (length given)
  pub left : AreFirstParts shows p (calls_of moment readings) (accepted_of (take written given))
