-- A desk's sitting: the lists that one session ran, with reads between them.
use Rattle.std.specs.Prelude.{◌≡◌, ◌≤◌, ◌+◌, ℕ, List, [], ◌∷◌, ◌++◌, Result, Ok, Err, length, take}
use Rattle.mm_definitions.specs.Package.{Package}
use Rattle.mm_definitions.specs.Runs.{Call, run, accepted}
use Rattle.mm_definitions.specs.Streams.{Written}
use Rattle.mm_definitions.specs.declared.answers.RunFault.{RunFault}
use Rattle.mm_definitions.specs.declared.answers.Tally.{Tally}
use Rattle.mm_io.specs.Records.{records_of}
use Rattle.mm_run.specs.Answers.{calls_of}
use Rattle.mm_run.specs.Readings.{Reading, AreReadAs}
use Rattle.mm_run.specs.Runs.{acknowledged_of}
use Rattle.mm_run.specs.declared.apply.Apply as applies
use Rattle.mm_desk.specs.Bodies.{RunsBody}

-- a list that was run: its bytes, its moment, the output before its first line and behind its last, and what it came to
pub record Visit : Type 0 where
  pub bytes : List ℕ
  pub moment : ℕ
  pub old : Written
  pub new : Written
  pub result : Result Tally RunFault

-- What reads do to a session: it is settled where it was, has failed where it had, and a crash leaves no more.
pub record Stays {A : Type 0} (apply : applies.Ghosts A) (old new : A) : Type 0 where
  pub clean : apply.is_clean new → apply.is_clean old
  pub same : apply.has_failed new ≡ apply.has_failed old
  pub settled : apply.is_clean new → (p : Package) → apply.settled old p → apply.settled new p
  pub left : apply.is_clean new → (db : apply.Database) → apply.may_leave new db → apply.may_leave old db

-- it ran this list
abbrev pub RunsVisit : {A : Type 0} (apply : applies.Ghosts A) → Visit → A → A → Type 0
RunsVisit apply v old new = RunsBody apply v.moment old new v.bytes v.old v.new v.result

-- Each list was run on the session that the one before left, with reads between; only the last may have failed it.
unfoldable pub Sat : {A : Type 0} (apply : applies.Ghosts A) → A → List Visit → A → Type 0
Sat apply old [] new = Stays apply old new
Sat {A} apply old (v ∷ []) new = (before behind : A) × Stays apply old before × RunsVisit apply v before behind
    × Stays apply behind new
Sat {A} apply old (v ∷ w ∷ vs) new =
    (before behind : A) × Stays apply old before × RunsVisit apply v before behind
    × (apply.has_failed behind ≡ apply.has_failed before) × Sat apply behind (w ∷ vs) new

-- the first records of a list, read so
abbrev pub AreReadOf : Visit → List Reading → Type 0
AreReadOf v readings = AreReadAs (take (length readings) (records_of v.bytes)) readings

-- how many accepted commands of a list were acknowledged: told by a whole line
abbrev pub acknowledged_by : Package → ℕ → List Reading → Result Tally RunFault → ℕ
acknowledged_by p moment readings (Ok t) = t.accepted
acknowledged_by p moment readings (Err e) = acknowledged_of p moment readings e.tally

-- how many records were answered, of a list that was read to its end all
abbrev pub answered_by : Result Tally RunFault → ℕ
answered_by (Ok t) = t.accepted + t.refused
answered_by (Err e) = e.tally.accepted + e.tally.refused

-- The commands of all lists, and how many of the accepted ones are sure to stand: of each list but the last, all of the
-- records that were answered, and no other was read; of the last, whose readings are those records and perhaps one
-- more, the ones that were acknowledged.
unfoldable pub IsSitting : Package → List Visit → List Call → ℕ → Type 0
IsSitting p [] calls kept = (calls ≡ []) × (kept ≡ 0)
IsSitting p (v ∷ []) calls kept = (readings : List Reading) × AreReadOf v readings
    × (answered_by v.result ≤ length readings)
    × (calls ≡ calls_of v.moment readings)
    × (kept ≡ acknowledged_by p v.moment readings v.result)
IsSitting p (v ∷ w ∷ vs) calls kept = (readings : List Reading) × AreReadOf v readings
    × (length readings ≡ answered_by v.result)
    × (rest : List Call) × (more : ℕ)
    × IsSitting (run p (calls_of v.moment readings)) (w ∷ vs) rest more
    × (calls ≡ calls_of v.moment readings ++ rest) × (kept ≡ length (accepted p (calls_of v.moment readings)) + more)
