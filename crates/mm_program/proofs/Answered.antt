-- One more request of a desk, and its line.
use Rattle.std.proofs.Common.{◌≡◌, ◌∙◌, ◌+◌, ◌<◌, ◌⊎◌, ℕ, List, [], ◌∷◌, ◌++◌, length, Option, Ok, Err, Result}
use Rattle.std.proofs.Common.{refl, sym, ap, subst, inl, inr, Bool, true, false, arith}
use Rattle.std.proofs.Common.{length-append, append-nil, append_assoc}
use Rattle.std.specs.Io.KnownBytes.{Appends}
use Rattle.std.proofs.KnownBytes.{Appends-nil, Appends-trans}
use Rattle.std.proofs.lemmas.Bool.{false≢true}
use Rattle.mm_definitions.specs.Streams.{Written, written_as}
use Rattle.mm_definitions.specs.declared.answers.PageFault.{PageFault}
use Rattle.mm_definitions.specs.declared.answers.RunFault.{RunFault}
use Rattle.mm_definitions.specs.declared.answers.Tally.{Tally}
use Rattle.mm_work.specs.Pages.{IsPrinted}
use Rattle.mm_run.specs.declared.apply.Apply as applies
use Rattle.mm_desk.specs.Sittings.{Stays}
use Rattle.mm_desk.specs.Told.{Told}
use Rattle.mm_desk.specs.declared.desk.Done.{Done}
use Rattle.mm_desk.specs.declared.desk.Done.TheVariants as dones
use Rattle.mm_program.specs.Attended.{AreTold, EndNone, EndsNot, GoesOn, TellsTurn, text_of, texts_of}
use Rattle.mm_program.specs.declared.sittings.Turn.{Turn}
use Rattle.mm_program.specs.declared.sittings.Turn.TheVariants as turns

ends_not : (failed : Bool) (result : Result Done PageFault) → GoesOn failed result → GoesOn false result
ends_not failed (Ok (dones.Ran run)) it = refl
ends_not failed (Ok dones.Shown) it = tt
ends_not failed (Ok dones.Ended) it = it
ends_not failed (Err fault) it = tt

-- the status of an end
status_in : Turn → ℕ
status_in turns.Next = 0
status_in (turns.Last status) = status

pub one_status : (this that : ℕ) → turns.Last this ≡ turns.Last that → this ≡ that
unfolding status_in
one_status this that same = ap status_in same

-- where the next one comes only while the session works, a session that has failed ends the desk by 3
pub ends_failed : (turn : Turn) (failed : Bool) → (turn ≡ turns.Next) ⊎ (turn ≡ turns.Last 3)
    → (turn ≡ turns.Next → failed ≡ false) → failed ≡ true → turn ≡ turns.Last 3
ends_failed turn failed (inl next) goes down = absurd (false≢true (sym (goes next) ∙ down))
ends_failed turn failed (inr last) goes down = last

-- a session that is as it was has not failed since
pub stays_working : {A : Type 0} (apply : applies.Ghosts A) (old new : A) (turn : Turn) → Stays apply old new
    → apply.has_failed old ≡ false → apply.has_failed new ≡ true → turn ≡ turns.Last 3
stays_working apply old new turn stays works down = absurd (false≢true (sym works ∙ sym stays.same ∙ down))

end_none : (all : List Told) (t : Told) → EndNone all → EndsNot t → EndNone (all ++ t ∷ [])
unfolding EndNone
end_none [] t it one = (one, tt)
end_none (u ∷ us) t it one = (it.0, end_none us t it.1 one)

texts_more : (all : List Told) (t : Told) → texts_of (all ++ t ∷ []) ≡ texts_of all ++ text_of t.result
texts_more [] t = append-nil (text_of t.result)
texts_more (u ∷ us) t =
    ap (λ l. text_of u.result ++ l) (texts_more us t)
    ∙ sym (append_assoc (text_of u.result) (texts_of us) (text_of t.result))

-- so many were answered, none ended the desk, and each line was printed whole
pub record Went (count : ℕ) (all : List Told) (old new : Option (List ℕ)) (before failed : Bool) : Type 0 where
  pub none : EndNone all
  pub many : length all ≡ count
  pub text : Appends old new (texts_of all)
  pub working : failed ≡ before

pub went_none : (held : Option (List ℕ)) (working : Bool) → Went 0 [] held held working working
unfolding EndNone
went_none held working = record { none = tt; many = refl; text = Appends-nil held; working = refl }

module _ (count : ℕ) (all : List Told) (old held new : Option (List ℕ)) (before between failed : Bool)
    (it : Went count all old held before between) (t : Told) (down : Bool) where
  lines : Appends held new (text_of t.result) → Appends old new (texts_of (all ++ t ∷ []))
  lines one = subst (λ l. Appends old new l) (sym (texts_more all t)) (Appends-trans _ _ _ _ _ it.text one)

  pub went_on : TellsTurn down t.result (written_as held between) (written_as new failed) turns.Next
      → Went (count + 1) (all ++ t ∷ []) old new before failed
  went_on (goes, printed) = record {
    none = end_none all t it.none (ends_not down t.result goes);
    many = omega (arith, it.many, length-append all (t ∷ []));
    text = lines printed.0;
    working = printed.1 ∙ it.working;
  }

  pub went_last : (most status : ℕ) → count < most
      → TellsTurn down t.result (written_as held between) (written_as new failed) (turns.Last status)
      → AreTold most (all ++ t ∷ []) down (written_as old before) (written_as new failed) status
  went_last most status room (inl (last, printed)) = inr (
    all,
    t,
    refl,
    it.none,
    omega (arith, room, it.many, length-append all (t ∷ [])),
    inl (last, lines printed.0, printed.1 ∙ it.working),
  )
  went_last most status room (inr (cut, is)) = inr (
    all,
    t,
    refl,
    it.none,
    omega (arith, room, it.many, length-append all (t ∷ [])),
    inr (cut.0, is, cut.1, cut.2, Appends-trans _ _ _ _ _ it.text cut.3),
  )

pub went_all : (count most : ℕ) (all : List Told) (old new : Option (List ℕ)) (before failed down : Bool)
    → Went count all old new before failed → count ≡ most
    → AreTold most all down (written_as old before) (written_as new failed) 0
went_all count most all old new before failed down it end = inl (it.none, it.many ∙ end, it.text, it.working, refl)

-- a list that was run, and its line
pub list_turn : (failed : Bool) (run : Result Tally RunFault) (old new : Written) (turn : Turn)
    → IsPrinted old new (text_of (Ok (dones.Ran run))) true → (turn ≡ turns.Next) ⊎ (turn ≡ turns.Last 3)
    → (turn ≡ turns.Next → failed ≡ false) → (turn ≡ turns.Last 3 → failed ≡ true)
    → TellsTurn failed (Ok (dones.Ran run)) old new turn
list_turn failed run old new turn printed (inl is) goes over =
    subst (λ t. TellsTurn failed (Ok (dones.Ran run)) old new t) (sym is) (goes is, printed)
list_turn failed run old new turn printed (inr is) goes over =
    subst (λ t. TellsTurn failed (Ok (dones.Ran run)) old new t) (sym is) (inl ((over is, refl), printed))

pub turn_of : (t : Told) (result : Result Done PageFault) (failed : Bool) (old new : Written) (turn : Turn)
    → t.result ≡ result → TellsTurn failed result old new turn → TellsTurn failed t.result old new turn
turn_of t result failed old new turn is it = subst (λ r. TellsTurn failed r old new turn) (sym is) it
