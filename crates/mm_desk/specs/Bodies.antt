-- The run of the records of a body that is held.
use Rattle.std.specs.Prelude.{◌≡◌, ◌≢◌, ℕ, Bool, true, List, Some, Result, Ok, Err, IfErr, codes}
use Rattle.mm_definitions.specs.Faults.{output}
use Rattle.mm_definitions.specs.Streams.{Written}
use Rattle.mm_definitions.specs.declared.answers.RunFault.{RunFault}
use Rattle.mm_definitions.specs.declared.answers.Tally.{Tally}
use Rattle.mm_run.specs.Promised.{KeepsRun}
use Rattle.mm_run.specs.Runs.{IsToldOf, RunTellsReopening, TellsWriter}
use Rattle.mm_run.specs.Sessions.{shown_since}
use Rattle.mm_run.specs.declared.apply.Apply as applies

-- the head of the answers to records
abbrev pub answers_head : List ℕ
answers_head = codes "HTTP/1.1 200 OK\r\nContent-Type: text/plain\r\nX-Content-Type-Options: nosniff\r\nConnection: close\r\n\r\n"

-- What was written is flushed, where the output did not fail.
abbrev pub IsFlushedFor : Bool → Result Tally RunFault → Type 0
IsFlushedFor flushed (Ok t) = flushed ≡ true
IsFlushedFor flushed (Err e) = e.fault.0 ≢ output.0 → flushed ≡ true

-- It runs the records of these bytes, whatever a connection tells of them.
pub record RunsBody {A : Type 0} (apply : applies.Ghosts A) (moment : ℕ) (old new : A) (bytes : List ℕ)
    (output output_now : Written) (result : Result Tally RunFault) : Type 0 where
  pub clean : apply.is_clean new → apply.is_clean old
  -- of a session that read as a package, and so of one that was settled for it (`settled_runs`)
  pub seen : KeepsRun moment (apply.is_clean new) (apply.seen old) (Some bytes) (apply.has_failed old)
      (λ p. shown_since apply old p new)
      output output_now result
  pub told : IsToldOf output output_now result
  pub session : RunTellsReopening (apply.has_failed old) (apply.has_failed new) (new ≡ old) result
  pub writer : IfErr result (TellsWriter output.failed output_now.failed)
