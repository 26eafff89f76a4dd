-- What a run tells of a session that has to be opened again.
use Rattle.std.proofs.Common.{◌≡◌, ◌≢◌, ◌∙◌, ◌⊎◌, inl, inr, ℕ, List, Option, Some, Bool, true, false, Err, refl, sym}
use Rattle.std.proofs.Common.{ap, subst, arith}
use Rattle.mm_definitions.specs.declared.answers.Fault.{Fault}
use Rattle.mm_definitions.specs.declared.answers.Answer.{Answer}
use Rattle.mm_definitions.specs.declared.answers.Answer.TheVariants as answers
use Rattle.mm_definitions.specs.declared.answers.ReadFault.{ReadFault}
use Rattle.mm_definitions.specs.declared.answers.ReadFault.TheVariants as faults
use Rattle.mm_definitions.specs.declared.answers.RunFault.{RunFault}
use Rattle.mm_run.specs.Ended.{answer_unread}
use Rattle.mm_definitions.specs.declared.answers.Tally.{Tally}
use Rattle.mm_io.specs.Records.{IsReadFault, TellsFailing, WorksStill, read_fault}
use Rattle.mm_run.specs.Answers.{is_fault}
use Rattle.mm_run.specs.Applied.{IsAnswer, IsApplyFault, OnFault, TellsReopening}
use Rattle.mm_run.specs.Told.{Stops, with_answer, with_line}
use Rattle.mm_run.specs.Runs.{IsRunFault, RunTellsReopening, TellsTurn}
use Rattle.mm_definitions.specs.Streams.{written_as}

no_such : (f : ℕ) → IsApplyFault f → f ≡ 96 → ⊥
no_such f (inl e) h = absurd (omega arith)
no_such f (inr (inl e)) h = absurd (omega arith)
no_such f (inr (inr e)) h = absurd (omega arith)

-- a command was applied
pub applied-tells : (before failed : Bool) (same : Type 0) (a : Answer) → OnFault a IsApplyFault
    → (before ≡ true → (a ≡ answers.Fault (record { 0 = 92 })) × same)
    → (before ≡ false → OnFault a (λ f. f ≢ 92)) → (before ≡ false → failed ≡ is_fault a)
    → TellsReopening before failed same a
applied-tells true failed same answers.Ok faults ended working fails =
    absurd (let e : answers.Ok ≡ answers.Fault (record { 0 = 92 }) = (ended refl).0 in cc)
applied-tells false failed same answers.Ok faults ended working fails = (refl, fails refl)
applied-tells true failed same (answers.Refused why) faults ended working fails =
    absurd (let e : answers.Refused why ≡ answers.Fault (record { 0 = 92 }) = (ended refl).0 in cc)
applied-tells false failed same (answers.Refused why) faults ended working fails =
    (fails refl, λ e. absurd (let f : false ≡ true = e in cc))
applied-tells true failed same (answers.Fault f) faults ended working fails =
    let is : answers.Fault f ≡ answers.Fault (record { 0 = 92 }) = (ended refl).0 in
    let number : f.0 ≡ 92 = ap (λ (x : Fault). x.0) (cc is) in
    (λ e. refl, λ e. absurd (omega arith), λ e. absurd (omega arith), λ e. (ended refl).1)
applied-tells false failed same (answers.Fault f) faults ended working fails = (
  λ e. absurd (working refl e),
  λ e. (refl, fails refl),
  λ e. absurd (no_such f.0 faults e),
  λ e. absurd
      (let g : false ≡ true = e in cc),
)

-- a record that was not read as a command was answered
pub unread-tells : (fault : ReadFault) (failed : Bool) (same : Type 0) → same
    → OnFault (answer_unread fault) IsApplyFault × TellsReopening failed failed same (answer_unread fault)
unread-tells (faults.Refused why) failed same here = (tt, (refl, λ was. here))
unread-tells faults.Memory failed same here =
    (inl refl, (λ q. absurd (omega arith), λ q. absurd (omega arith), λ q. refl, λ was. here))

-- an answer that is no fault
pub goes-same : (a : Answer) (before failed : Bool) (same : Type 0) → IsAnswer a → TellsReopening before failed same a
    → failed ≡ before
goes-same answers.Ok before failed same good h = h.1 ∙ sym h.0
goes-same (answers.Refused why) before failed same good h = h.0
goes-same (answers.Fault f) before failed same good h = absurd good

pub goes-ended : (a : Answer) (before failed : Bool) (same : Type 0) (t t2 : Tally) → IsAnswer a
    → TellsReopening before failed same a → before ≡ true
    → t2 ≡ with_line (with_answer a t)
    → same × (t2.accepted ≡ t.accepted)
goes-ended answers.Ok before failed same t t2 good h was e = absurd (let f : false ≡ true = sym h.0 ∙ was in cc)
goes-ended (answers.Refused why) before failed same t t2 good h was e = (h.1 was, ap (λ (x : Tally). x.accepted) e)
goes-ended (answers.Fault f) before failed same t t2 good h was e = absurd good

-- a run stopped at the line of an answer
accepted-stopped : (a : Answer) (t : Tally) (e : RunFault) (old new : Option (List ℕ)) (was failed : Bool) (n : ℕ)
    → Stops (written_as old was) (written_as new failed) n a t e → e.tally.accepted ≡ (with_answer a t).accepted
accepted-stopped a t e old new was failed n (inl h) = ap (λ (x : Tally). x.accepted) h.2
accepted-stopped a t e old new was failed n (inr (inl h)) = ap (λ (x : Tally). x.accepted) h.2
accepted-stopped a t e old new was failed n (inr (inr h)) = ap (λ (x : Tally). x.accepted) h.2

module _ {S : Type 0} (x y z : S) (first before failed : Bool) (t : Tally) (e : RunFault) (old new : Option (List ℕ))
    (was writer : Bool) (n : ℕ)
    (so_far : before ≡ first) (ended : first ≡ true → (y ≡ x) × (t.accepted ≡ 0)) where
  abbrev Result : Type 0
  Result = RunTellsReopening first failed (z ≡ x) (Err e)

  at_writer : e.fault.0 ≡ 97 → (first ≡ true → (z ≡ x) × (e.tally.accepted ≡ 0)) → Result
  at_writer is kept = (λ q. absurd (omega arith), λ q. absurd (omega arith), λ q. absurd (omega arith), kept)

  kept-refused : (e.tally.accepted ≡ t.accepted) → (before ≡ true → z ≡ y) → first ≡ true → (z ≡ x)
      × (e.tally.accepted ≡ 0)
  kept-refused count same was = let on = ended was in (same (so_far ∙ was) ∙ on.0, count ∙ on.1)

  at_fault : (f : Fault) → f ≡ e.fault → TellsReopening before failed (z ≡ y) (answers.Fault f)
      → e.tally.accepted ≡ t.accepted → Result
  at_fault f is h count =
      let number : f.0 ≡ e.fault.0 = ap (λ (x : Fault). x.0) is in (
        λ q. sym so_far ∙ h.0 (number ∙ q),
        λ q. let s = h.1 (number ∙ q) in (sym so_far ∙ s.0, s.1),
        λ q. h.2 (number ∙ q) ∙ so_far,
        kept-refused count h.3,
      )

  accepted_none : before ≡ false → first ≡ true → (z ≡ x) × (e.tally.accepted ≡ 0)
  accepted_none is was = absurd (let g : false ≡ true = sym is ∙ (so_far ∙ was) in cc)

  by_answer : (a : Answer) → TellsReopening before failed (z ≡ y) a
      → Stops (written_as old was) (written_as new writer) n a t e
      → e.tally.accepted ≡ (with_answer a t).accepted → Result
  by_answer answers.Ok h (inl s) count = absurd (let g : answers.Ok ≡ answers.Fault e.fault = s.0 in cc)
  by_answer answers.Ok h (inr (inl s)) count = at_writer s.0 (accepted_none h.0)
  by_answer answers.Ok h (inr (inr s)) count = at_writer s.0 (accepted_none h.0)
  by_answer (answers.Refused why) h (inl s) count =
      absurd (let g : answers.Refused why ≡ answers.Fault e.fault = s.0 in cc)
  by_answer (answers.Refused why) h (inr (inl s)) count = at_writer s.0 (kept-refused count h.1)
  by_answer (answers.Refused why) h (inr (inr s)) count = at_writer s.0 (kept-refused count h.1)
  by_answer (answers.Fault f) h (inl s) count = at_fault f (cc (s.0)) h count
  by_answer (answers.Fault f) h (inr (inl s)) count = at_writer s.0 (kept-refused count h.3)
  by_answer (answers.Fault f) h (inr (inr s)) count = at_writer s.0 (kept-refused count h.3)

  pub stops-failing : (a : Answer) → TellsReopening before failed (z ≡ y) a
      → Stops (written_as old was) (written_as new writer) n a t e → Result
  stops-failing a h s = by_answer a h s (accepted-stopped a t e old new was writer n s)

-- why a run stopped there: the answer's own fault, or the writer's
pub stops-why : (a : Answer) (t : Tally) (e : RunFault) (old new : Option (List ℕ)) (was failed reading : Bool) (n : ℕ)
    → OnFault a (λ f. IsRunFault f reading) → Stops (written_as old was) (written_as new failed) n a t e
    → (e.fault.0 ≡ 97) ⊎ IsRunFault e.fault.0 reading
stops-why a t e old new was failed reading n why (inr (inl h)) = inl h.0
stops-why a t e old new was failed reading n why (inr (inr h)) = inl h.0
stops-why (answers.Fault f) t e old new was failed reading n why (inl h) = inr
    (subst (λ (x : Fault). IsRunFault x.0 reading) (cc (h.0)) why)
stops-why answers.Ok t e old new was failed reading n why (inl h) =
    absurd (let g : answers.Ok ≡ answers.Fault e.fault = h.0 in cc)
stops-why (answers.Refused r) t e old new was failed reading n why (inl h) =
    absurd (let g : answers.Refused r ≡ answers.Fault e.fault = h.0 in cc)

-- what a turn tells of a reader: a record was read, or it wasn't
pub read-tells_reader : (before now : Bool) (a : Answer) → WorksStill before now → TellsTurn before now (Some a)
read-tells_reader before now answers.Ok works = works
read-tells_reader before now (answers.Refused why) works = works
read-tells_reader before now (answers.Fault f) works =
    λ first down. absurd (let g : false ≡ true = sym (works first) ∙ down in cc)

pub unread-tells_reader : (before now : Bool) (f : ℕ) → f ≡ read_fault now → TellsFailing before now f
unread-tells_reader before now f number = λ first down. number ∙ ap read_fault down

pub tells_on : (before now : Bool) (a : Answer) → IsAnswer a → TellsTurn before now (Some a) → WorksStill before now
tells_on before now answers.Ok good tells = tells
tells_on before now (answers.Refused why) good tells = tells
tells_on before now (answers.Fault f) good tells = absurd good

-- of a reader that has failed in the turn: by its own fault, or the writer's
pub stops-reader : (a : Answer) (t : Tally) (e : RunFault) (old new : Option (List ℕ)) (was failed before now : Bool)
    (n : ℕ)
    → TellsTurn before now (Some a) → Stops (written_as old was) (written_as new failed) n a t e → before ≡ false
    → now ≡ true
    → (e.fault.0 ≡ 96) ⊎ (e.fault.0 ≡ 97)
stops-reader a t e old new was failed before now n tells (inr (inl h)) first down = inr h.0
stops-reader a t e old new was failed before now n tells (inr (inr h)) first down = inr h.0
stops-reader (answers.Fault f) t e old new was failed before now n tells (inl h) first down =
    inl (subst (λ (x : Fault). x.0 ≡ 96) (cc (h.0)) (tells first down))
stops-reader answers.Ok t e old new was failed before now n tells (inl h) first down =
    absurd (let g : answers.Ok ≡ answers.Fault e.fault = h.0 in cc)
stops-reader (answers.Refused r) t e old new was failed before now n tells (inl h) first down =
    absurd (let g : answers.Refused r ≡ answers.Fault e.fault = h.0 in cc)

-- a fault of reading is one that has a line, and does nothing to a session
pub read-why : (f : ℕ) (b : Bool) → IsReadFault f b → IsRunFault f b
read-why f b (inl e) = inl (inl e)
read-why f b (inr e) = inr e

pub read-tells : (f : ℕ) (b before : Bool) (same : Type 0) → same → IsReadFault f b
    → (f ≡ 92 → before ≡ true) × (f ≡ 91 → (before ≡ false) × (before ≡ true)) × (f ≡ 96 → before ≡ before)
    × (before ≡ true → same)
read-tells f b before same here (inl e) = (λ q. absurd (omega arith), λ q. absurd (omega arith), λ q. refl, λ q. here)
read-tells f b before same here (inr e) = let e0 : f ≡ 96 =
    e.0 in (λ q. absurd (omega arith), λ q. absurd (omega arith), λ q. refl, λ q. here)
