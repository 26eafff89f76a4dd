-- What a run promises, by what commands are applied to, what is read and what is written.
use Rattle.std.specs.Prelude.{ℕ, ◌+◌, ◌<◌, ◌^◌, ◌≡◌, ◌⊎◌, List, Bool, true, Option, Result, IfOk, IfErr, OnOk}
use Rattle.std.specs.Io.KnownBytes.{IsAtEnd}
use Rattle.std.specs.declared.io.traits.Read as reads
use Rattle.std.specs.declared.io.traits.Write as writes
use Rattle.csv.specs.declared.parser.State.{State}
use Rattle.mm_definitions.specs.Faults as faults
use Rattle.mm_definitions.specs.Package.{Package}
use Rattle.mm_definitions.specs.Streams.{Written, has_failed, inside, is_flushed, written}
use Rattle.mm_definitions.specs.declared.answers.Answer.{Answer}
use Rattle.mm_definitions.specs.declared.answers.RunFault.{RunFault}
use Rattle.mm_definitions.specs.declared.answers.Tally.{Tally}
use Rattle.mm_definitions.specs.declared.streams.Io.{Io}
use Rattle.mm_run.specs.Told.{AreTold, IsNear}
use Rattle.mm_run.specs.Ended.{IsEndedRun, OnEnded, RanEnded}
use Rattle.mm_run.specs.Runs.{IsAll, IsKept, IsRunFault, IsSome, IsStopped, IsToldOf, OnRun, OnSound, RanAll, RanSome}
use Rattle.mm_run.specs.Runs.{RunTellsReopening, TellsFlush, TellsReader, TellsWriter, WorksOn}
use Rattle.mm_run.specs.Sessions.{shown_since}
use Rattle.mm_run.specs.Shown.{Shown}
use Rattle.mm_run.specs.declared.apply.Apply as applies

-- What a run promises of the package, by what the session was settled for, what the input told, whether the session had
-- failed, what it shows now, by that package, and the output before and after.
pub record KeepsRun {D : Type 0} (moment : ℕ) (clean : Type 0) (settled : Package → Type 0) (told : Option (List ℕ))
    (before : Bool)
    (shows : Package → Shown D) (output output_now : Written) (result : Result Tally RunFault) : Type 0 where
  -- Without a fault each record is answered, and all that was accepted stands.
  pub done : IfOk result (λ t. OnRun clean settled told
      (λ p bytes. RanAll p moment bytes (shows p) output output_now t))
  -- With a fault the first records are answered, and what may be left is a first part of the accepted commands. Where
  -- no command failed the session works on, settled for the package after them.
  pub stopped : IfErr result (λ e. OnRun clean settled told
      (λ p bytes. RanSome p moment bytes (WorksOn before (shows p)) ((shows p).failed ≡ true) (shows p) output
      output_now e))
  -- Whatever the input tells: the package that a crash may leave, and the one that the session goes on with, meet the
  -- rules.
  pub kept : OnSound clean settled (λ p. IsKept before (shows p))

-- It runs the records that the input has still to give, each command at the moment, and answers each with a line of the
-- output.
pub record RunsList {A R W : Type 0} (apply : applies.Ghosts A) (read : reads.Ghosts R) (write : writes.Ghosts W)
    (moment : ℕ)
    (old new : A) (input input_now : Io R) (output output_now : Io W) (result : Result Tally RunFault) : Type 0 where
  -- A store that is clean after the run was clean before it.
  pub clean : apply.is_clean new → apply.is_clean old
  -- Of a session that reads as a package, whatever a crash would leave of it: it reads then as the package after the
  -- answers. Each database that may be left stands for a first part of the accepted commands, or might be left before
  -- the run, and that part gives the package that the session read as then. So one that was settled is settled then
  -- (`settled_runs`).
  pub seen : KeepsRun moment (apply.is_clean new) (apply.seen old) (read.remaining (inside input))
      (apply.has_failed old)
      (λ p. shown_since apply old p new) (written write.contents output) (written write.contents output_now) result
  -- Without a fault the input is at its end.
  pub end : OnOk result (IsAtEnd (read.remaining (inside input_now)))
  -- And the output has not failed in the run.
  pub working : OnOk result (has_failed output_now ≡ has_failed output)
  -- Whatever the input and the session are: the lines of some answers were written, all that are counted, and behind
  -- them that of the fault; where the output fails, a beginning of such a text.
  pub told : IsToldOf (written write.contents output) (written write.contents output_now) result
  -- What was written is flushed.
  pub flushed : TellsFlush (is_flushed output) (is_flushed output_now) result
  -- As many records were answered at a fault as lines were written whole, or one more or one less.
  pub near : IfErr result (λ e. IsNear e.tally)
  -- A session that has to be opened again is left as it was; 92 comes only there.
  pub session : RunTellsReopening (apply.has_failed old) (apply.has_failed new) (new ≡ old) result
  -- 97 is the output's, and told wherever it fails.
  pub writer : IfErr result (TellsWriter (has_failed output) (has_failed output_now))
  -- 96 is the input's, which tells it; the others are faults of commands and of reading.
  pub why : IfErr result (λ e. (e.fault.0 ≡ faults.output.0) ⊎ IsRunFault e.fault.0 (has_failed input_now))
  -- And told wherever it fails, unless the output does then.
  pub reader : TellsReader (has_failed input) (has_failed input_now) result
  -- A session that has to be opened again answers the records that spell no command, and 92 for the first that spells
  -- one.
  pub ended : OnEnded (apply.has_failed old) (read.remaining (inside input))
      (λ bytes. RanEnded bytes (written write.contents output) (written write.contents output_now) result)

-- ---- inside a run

-- The same of the records of these bytes, where a reader of records is in this state, and tells at first and in the end
-- whether it has failed.
pub record RunsSource {A W : Type 0} (apply : applies.Ghosts A) (write : writes.Ghosts W) (moment : ℕ)
    (old new : A) (source : Option (List ℕ)) (state : State) (read_before reading : Bool) (output output_now : Io W)
    (result : Result Tally RunFault) : Type 0 where
  pub clean : apply.is_clean new → apply.is_clean old
  -- Without a fault each record is answered, and its line written.
  pub done : IfOk result (λ t. (given : List Answer) × AreTold given t (write.contents (inside output))
      (write.contents (inside output_now))
      × OnRun (apply.is_clean new) (apply.seen old) source
      (λ p xs. IsAll p moment xs state (shown_since apply old p new).settled given))
  pub working : OnOk result (has_failed output_now ≡ has_failed output)
  pub flushed : TellsFlush (is_flushed output) (is_flushed output_now) result
  -- With a fault the first records are, and so much may be left.
  pub stopped : IfErr result (λ e. (given : List Answer) × IsStopped given e (written write.contents output)
      (written write.contents output_now)
      × OnRun (apply.is_clean new) (apply.seen old) source
      (λ p xs. IsSome p moment xs state (apply.has_failed old) (shown_since apply old p new) given e.tally.written))
  -- Each line tells one answer, and there is a number for one more.
  pub small : IfOk result (λ t. (t.accepted + t.refused ≡ t.written) × (t.written + 1 < 2 ^ 64))
  pub near : IfErr result (λ e. IsNear e.tally)
  pub session : RunTellsReopening (apply.has_failed old) (apply.has_failed new) (new ≡ old) result
  pub why : IfErr result (λ e. (e.fault.0 ≡ faults.output.0) ⊎ IsRunFault e.fault.0 reading)
  pub reader : TellsReader read_before reading result
  pub kept : OnSound (apply.is_clean new) (apply.seen old)
      (λ p. IsKept (apply.has_failed old) (shown_since apply old p new))
  pub ended : OnEnded (apply.has_failed old) source
      (λ xs. IsEndedRun xs state (written write.contents output) (written write.contents output_now) result)
