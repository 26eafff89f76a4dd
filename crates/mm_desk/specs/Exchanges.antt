-- What one request does to a session.
use Rattle.std.specs.Prelude.{◌≡◌, ⊤, ℕ, Bool, true, List, Result, Ok, Err, ◌⊎◌}
use Rattle.mm_definitions.specs.Streams.{Written}
use Rattle.mm_definitions.specs.declared.answers.PageFault.{PageFault}
use Rattle.mm_run.specs.declared.apply.Apply as applies
use Rattle.mm_desk.specs.Bodies.{IsFlushedFor, RunsBody}
use Rattle.mm_desk.specs.Sittings.{RunsVisit, Stays, Visit}
use Rattle.mm_desk.specs.declared.desk.Done.{Done}
use Rattle.mm_desk.specs.declared.desk.Done.TheVariants as dones

-- Its records were run, those of some body; or the session is as it was but for reads.
abbrev pub IsExchange : {A : Type 0} (apply : applies.Ghosts A) → ℕ → A → A → Written → Result Done PageFault → Type 0
IsExchange apply moment old new after (Ok (dones.Ran run)) = (body : List ℕ) × (between : Written)
    × RunsBody apply moment old new body between after run
IsExchange apply moment old new after (Ok dones.Shown) = Stays apply old new
IsExchange apply moment old new after (Ok dones.Ended) = Stays apply old new
IsExchange apply moment old new after (Err fault) = Stays apply old new

-- all that was written behind an answer is flushed
abbrev pub IsFlushedBehind : Bool → Result Done PageFault → Type 0
IsFlushedBehind flushed (Ok (dones.Ran run)) = IsFlushedFor flushed run
IsFlushedBehind flushed (Ok dones.Shown) = flushed ≡ true
IsFlushedBehind flushed (Ok dones.Ended) = flushed ≡ true
IsFlushedBehind flushed (Err fault) = ⊤

-- the session is as it was but for reads, or it ran a list
abbrev pub IsDeskTurn : {A : Type 0} (apply : applies.Ghosts A) → A → A → Type 0
IsDeskTurn apply old new = Stays apply old new ⊎ ((v : Visit) × RunsVisit apply v old new)
