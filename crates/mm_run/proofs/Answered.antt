-- One record: what its answer says.
use Rattle.std.proofs.Common.{◌≡◌, inl, inr, ℕ, List, Bool, Option, Some, None, Ok, Err, true, false, refl, sym, ap}
use Rattle.std.proofs.Common.{subst}
use Rattle.csv.specs.Reading.{ReadRecord}
use Rattle.csv.specs.declared.reader.Reader.{Reader}
use Rattle.mm_definitions.specs.Bounds.{IsMoment, current}
use Rattle.mm_definitions.specs.Package.{Package}
use Rattle.mm_definitions.specs.Rules.{Meets}
use Rattle.mm_definitions.specs.Refusals.{Refusal}
use Rattle.mm_definitions.specs.declared.answers.Answer.{Answer}
use Rattle.mm_definitions.specs.declared.answers.Answer.TheVariants as answers
use Rattle.mm_definitions.specs.declared.commands.Command.{Command}
use Rattle.mm_io.specs.Records.{Record}
use Rattle.mm_definitions.specs.declared.answers.ReadFault.{ReadFault}
use Rattle.mm_definitions.specs.declared.answers.ReadFault.TheVariants as faults
use Rattle.mm_run.specs.Ended.{answer_unread}
use Rattle.mm_run.specs.Readings.{IsCommandRead, Reading, IsReadAs}
use Rattle.mm_run.specs.Answers.{answer_of, answer_to, after, plain, is_fault}
use Rattle.mm_run.specs.Applied.{IsApplied, IsSound, IsAnswer, OnFault}
use Rattle.mm_run.specs.Runs.{IsAnswered, Turns}
use Rattle.mm_run.specs.Shown.{Shown}
use Rattle.mm_laws.proofs.RunFacts.{refused_same}
use Rattle.mm_run.proofs.Keeps.{spelled_within, step_meets}

-- a command that is answered with a fault has failed the session, or had before
pub fault-fails : (before failed : Bool) (a : Answer) → (before ≡ true → failed ≡ true)
    → (before ≡ false → failed ≡ is_fault a)
    → OnFault a (λ _. failed ≡ true)
fault-fails before failed answers.Ok ended fails = tt
fault-fails before failed (answers.Refused why) ended fails = tt
fault-fails true failed (answers.Fault f) ended fails = ended refl
fault-fails false failed (answers.Fault f) ended fails = fails refl

-- a refusal that names no piece is its number
pub whole : (why : Refusal) → why.piece ≡ None → why ≡ plain why.number
whole why none = ap (λ o. let r : Refusal = record { number = why.number; piece = o } in r) none

module _ {D : Type 0} (fields : Record) (p : Package) (moment : ℕ) (before : Bool) (shows : Shown D) where
  -- a command was applied
  pub answered_command : (c : Command) (a : Answer) → IsReadAs fields (Ok c) → IsMoment moment → Meets current p
      → OnFault a (λ _. shows.failed ≡ true)
      → IsApplied p c moment a shows → IsAnswered fields p moment before a shows
  answered_command c answers.Ok read low meets fails h =
      (Ok c, read, ap answer_of (sym h.0), (h.1, step_meets p c moment low meets (spelled_within fields c read.1)))
  answered_command c (answers.Refused why) read low meets fails h = (
    Ok c,
    read,
    ap answer_of (sym h.0),
    subst (IsSound shows.settled) (sym (refused_same p c moment why h.0))
        (h.1, meets),
  )
  answered_command c (answers.Fault fault) read low meets fails h = inr
      (fails, c, read, step_meets p c moment low meets (spelled_within fields c read.1), h)

  -- a record that spells no command
  pub answered_refusal : (why : Refusal) → why.piece ≡ None → IsReadAs fields (Err why.number) → IsSound shows.settled p
      → IsAnswered fields p moment before (answers.Refused why) shows
  answered_refusal why none read sound = (Err why.number, read, ap answers.Refused (whole why none), sound)

  -- the same, as it was read
  pub answered_unread : (fault : ReadFault) → IsCommandRead fields (Err fault) → shows.failed ≡ before
      → IsSound shows.settled p
      → IsAnswered fields p moment before (answer_unread fault) shows
  answered_unread (faults.Refused why) read same sound = answered_refusal why read.0 read.1 sound
  answered_unread faults.Memory read same sound = inl (same, sound)

  -- a record was read and answered
  pub turned : {T : Type 0} (remaining : T → Option (List ℕ)) (a b : Reader T) (x : Answer)
      → ReadRecord remaining a b true fields
      → IsAnswered fields p moment before x shows → Turns remaining a b p moment before (Some x) shows
  turned remaining a b answers.Ok read h = (fields, read, h)
  turned remaining a b (answers.Refused why) read h = (fields, read, h)
  turned remaining a b (answers.Fault fault) read h = inr (fields, read, h)

-- what an answer that is no fault says
pub goes_on : {D T : Type 0} (remaining : T → Option (List ℕ)) (a b : Reader T) (p : Package) (moment : ℕ)
    (before : Bool) (shows : Shown D) (x : Answer) → IsAnswer x
    → Turns remaining a b p moment before (Some x) shows
    → (fields : Record) × ReadRecord remaining a b true fields × (reading : Reading) × IsReadAs fields reading
    × (x ≡ answer_to p reading) × IsSound shows.settled (after p moment reading)
goes_on remaining a b p moment before shows answers.Ok good h = (h.0, h.1, h.2.0, h.2.1, h.2.2, h.2.3)
goes_on remaining a b p moment before shows (answers.Refused why) good h = (h.0, h.1, h.2.0, h.2.1, h.2.2, h.2.3)
goes_on remaining a b p moment before shows (answers.Fault fault) good h = absurd good
