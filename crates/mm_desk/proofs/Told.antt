-- One more request.
use Rattle.std.proofs.Common.{◌≡◌, ◌∙◌, ◌⊎◌, false, List, [], ◌∷◌, ◌++◌, Option, Some, None, Result, Ok, Err, inl}
use Rattle.std.proofs.Common.{inr, refl, sym, ap, subst, append_assoc, append-nil, ℕ, Bool}
use Rattle.std.specs.Prelude.{option_map}
use Rattle.mm_definitions.specs.declared.answers.PageFault.{PageFault}
use Rattle.mm_reads.specs.declared.viewer.Viewer as viewers
use Rattle.mm_run.specs.declared.apply.Apply as applies
use Rattle.mm_desk.specs.Answered.{Demands, IsDeskAnswered, IsHeadless, page_of}
use Rattle.mm_desk.specs.Sittings.{RunsVisit, Sat, Stays, Visit}
use Rattle.mm_desk.specs.Told.{AddsTo, AreAnswered, AreVisitsOf, IsAnsweredAs, IsVisitOf, RanNone, Told}
use Rattle.mm_desk.specs.declared.desk.Done.{Done}
use Rattle.mm_desk.specs.declared.desk.Done.TheVariants as dones
use Rattle.mm_desk.specs.declared.desk.Gate.{Gate}
use Rattle.mm_desk.proofs.Sitting.{grows, rests}
use Rattle.mm_definitions.specs.Streams.{Written}
use Rattle.mm_definitions.specs.Keys.{Text}

pub adds_none : (told : Option (List Told)) → AddsTo told told []
adds_none None = refl
adds_none (Some before) = ap (λ l. Some l) (sym (append-nil before))

pub adds_more : (old mid new : Option (List Told)) (first more : List Told) → AddsTo old mid first → AddsTo mid new more
    → AddsTo old new (first ++ more)
adds_more None mid new first more one two = two ∙ ap (λ o. option_map (λ before. before ++ more) o) one
adds_more (Some before) mid new first more one two =
    two ∙ ap (λ o. option_map (λ b. b ++ more) o) one ∙ ap (λ l. Some l) (append_assoc before first more)

visits_rest : (ts : List Told) (t : Told) (visits : List Visit) → AreVisitsOf ts visits → RanNone t.result
    → AreVisitsOf (ts ++ t ∷ []) visits
unfolding AreVisitsOf
visits_rest [] t visits it none = inl (none, it)
visits_rest (u ∷ ts) t visits (inl (quiet, it)) none = inl (quiet, visits_rest ts t visits it none)
visits_rest (u ∷ ts) t visits (inr (v, rest, is, one, it)) none = inr (v, rest, is, one, visits_rest ts t rest it none)

visits_more : (ts : List Told) (t : Told) (visits : List Visit) (v : Visit) → AreVisitsOf ts visits → IsVisitOf t v
    → AreVisitsOf (ts ++ t ∷ []) (visits ++ v ∷ [])
unfolding AreVisitsOf
visits_more [] t visits v it one = inr (v, [], ap (λ l. l ++ v ∷ []) it, one, refl)
visits_more (u ∷ ts) t visits v (inl (quiet, it)) one = inl (quiet, visits_more ts t visits v it one)
visits_more (u ∷ ts) t visits v (inr (w, rest, is, other, it)) one =
    inr (w, rest ++ v ∷ [], ap (λ l. l ++ v ∷ []) is, other, visits_more ts t rest v it one)

pub visits_none : AreVisitsOf [] []
unfolding AreVisitsOf
visits_none = refl

module _ {D : Type 0} (view : viewers.Ghosts D) (apply : applies.Ghosts D) where
  pub answered_none : (s : D) → AreAnswered view apply s [] s
  unfolding AreAnswered
  answered_none s = refl

  pub answered_more : (ts : List Told) (t : Told) (old mid new : D) → AreAnswered view apply old ts mid
      → IsAnsweredAs view apply t mid new
      → AreAnswered view apply old (ts ++ t ∷ []) new
  unfolding AreAnswered
  answered_more [] t old mid new it one = (new, subst (λ s. IsAnsweredAs view apply t s new) it one, refl)
  answered_more (u ∷ ts) t old mid new (between, first, it) one =
      (between, first, answered_more ts t between mid new it one)

  -- it ran a list, or none
  turned : (t : Told) (result : Result Done PageFault) (mid new : D) → t.result ≡ result
      → IsDeskAnswered (page_of t.gate) (Demands t.gate) IsHeadless view apply t.moment t.input t.reading mid new t.old
      t.new result
      → (RanNone result × Stays apply mid new) ⊎ ((v : Visit) × IsVisitOf t v × RunsVisit apply v mid new)
  turned t (Ok (dones.Ran run)) mid new is (body, waits, between, sent, head, ran) = inr (
    record { bytes = body; moment = t.moment; old = between; new = t.new; result = run },
    (is, refl, refl, (waits, sent)),
    ran,
  )
  turned t (Ok dones.Shown) mid new is it = inl (tt, it.0)
  turned t (Ok dones.Ended) mid new is it = inl (tt, it.0)
  turned t (Err fault) mid new is it = inl (tt, it.0)

  -- the lists of one more request
  pub sits_on : (ts : List Told) (t : Told) (visits : List Visit) (old mid new : D) → apply.has_failed old ≡ false
      → Sat apply old visits mid
      → AreVisitsOf ts visits → apply.has_failed mid ≡ false → IsAnsweredAs view apply t mid new
      → (more : List Visit) × Sat apply old more new × AreVisitsOf (ts ++ t ∷ []) more
  sits_on ts t visits old mid new works sat of here it = elim (turned t t.result mid new refl it) [
    | inl x ↦ (visits, rests apply visits old mid new sat x.1, visits_rest ts t visits of x.0)
    | inr x ↦ (
      visits ++ x.0 ∷ [],
      grows apply visits x.0 old mid new sat (here ∙ sym works) x.2,
      visits_more ts t
          visits x.0 of x.1,
    )
  ]

  -- a request that nobody tells
  pub heard : (gate : Gate) (moment : ℕ) (source : Option Text) (reading : Bool) (old new : D)
      (output output_now : Written)
      (result : Result Done PageFault)
      → IsDeskAnswered (page_of gate) (Demands gate) IsHeadless view apply moment source reading old new output
      output_now result
      → (t : Told) × AddsTo None None (t ∷ []) × (t.result ≡ result) × IsAnsweredAs view apply t old new
  heard gate moment source reading old new output output_now result it = (
    record {
      gate = gate;
      input = source;
      reading = reading;
      moment = moment;
      old = output;
      new = output_now;
      result = result;
    },
    refl,
    refl,
    it,
  )
