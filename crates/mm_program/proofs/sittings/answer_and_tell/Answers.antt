use Rattle.std.proofs.Common.{◌∙◌, Ok, Err, ap, inl, inr, refl}
use Rattle.std.proofs.KnownBytes.{Appends-nil}
use Rattle.mm_definitions.specs.Streams.{written}
use Rattle.mm_desk.specs.declared.desk.Done.TheVariants as dones
use Rattle.mm_program.specs.declared.sittings.Turn.TheVariants as turns
use Rattle.mm_program.proofs.Answered.{stays_working, turn_of}
use Rattle.mm_work.specs.Pages.{page_fault_text}
use Rattle.mm_program.proofs.sittings.answer_and_tell.Goals as goal

pub returns-then-not-tell_page_fault-clause-told : goal.returns-then-not-tell_page_fault-clause-told
returns-then-not-tell_page_fault-clause-told g c =
    inr (inr (
      (
        page_fault_text c.in-Err.fault.0,
        (c.in-Err.fault.0, inl refl),
        rw c.if-not-tell_page_fault.true at c.tell_page_fault.ensures.told,
      ),
      refl,
    ))

pub returns-in-Err-clause-told : goal.returns-in-Err-clause-told
returns-in-Err-clause-told g c =
    inr (
      page_fault_text c.in-Err.fault.0,
      (c.in-Err.fault.0, inl refl),
      rw c.if-not-tell_page_fault.false at c.tell_page_fault.ensures.told,
    )

pub returns-in-Ran-clause-one : goal.returns-in-Ran-clause-one
returns-in-Ran-clause-one g c =
    let (moment, after, (body, between, runs)) = rw (c.in-Ok.is, c.in-Ran.is) at c.answer_next.ensures.exchange in
    inr (record { bytes = body; moment = moment; old = between; new = after; result = c.in-Ran.run' }, runs)

pub returns-then-not-tell_page_fault-clause-answered : goal.returns-then-not-tell_page_fault-clause-answered
returns-then-not-tell_page_fault-clause-answered g c =
    let (t, adds, same, is) = c.answer_next.ensures.told in (
      t,
      adds,
      is,
      turn_of t (Err c.in-Err.fault) _ _ _ (turns.Last 3) (same ∙ c.in-Err.is)
          (inr (rw c.if-not-tell_page_fault.true at c.tell_page_fault.ensures.told, refl)),
    )

pub returns-in-Err-clause-answered : goal.returns-in-Err-clause-answered
returns-in-Err-clause-answered g c =
    let (t, adds, same, is) = c.answer_next.ensures.told in (
      t,
      adds,
      is,
      turn_of t (Err c.in-Err.fault) _ _ _ turns.Next (same ∙ c.in-Err.is)
          (tt, rw c.if-not-tell_page_fault.false at c.tell_page_fault.ensures.told),
    )

pub returns-in-Shown-clause-answered : goal.returns-in-Shown-clause-answered
returns-in-Shown-clause-answered g c =
    let (t, adds, same, is) = c.answer_next.ensures.told in (
      t,
      adds,
      is,
      turn_of t (Ok dones.Shown) _ _ _ turns.Next (same ∙ c.in-Ok.is ∙ ap (λ d. Ok d) c.in-Shown.is)
          (tt, (Appends-nil _, refl)),
    )

pub returns-in-Ended-clause-answered : goal.returns-in-Ended-clause-answered
returns-in-Ended-clause-answered g c =
    let (t, adds, same, is) = c.answer_next.ensures.told in (
      t,
      adds,
      is,
      turn_of t (Ok dones.Ended) _ _ _ (turns.Last 0) (same ∙ c.in-Ok.is ∙ ap (λ d. Ok d) c.in-Ended.is)
          (inl (refl, (Appends-nil _, refl))),
    )

pub returns-in-Ran-clause-answered : goal.returns-in-Ran-clause-answered
returns-in-Ran-clause-answered g c =
    let (t, adds, same, is) = c.answer_next.ensures.told in (
      t,
      adds,
      is,
      turn_of t (Ok (dones.Ran c.in-Ran.run')) (g.D.Apply.has_failed c.answer_next.new.desk)
          (written g.W.Write.contents c.args.output.now) (written g.W.Write.contents c.tell_list.new.output)
          c.tell_list.result (same ∙ c.in-Ok.is ∙ ap (λ d. Ok d) c.in-Ran.is) c.tell_list.ensures.tells,
    )

pub returns-in-Err-clause-over : goal.returns-in-Err-clause-over
returns-in-Err-clause-over g c =
    let (moment, after, stays) = rw c.in-Err.is at c.answer_next.ensures.exchange in
    stays_working g.D.Apply _ _ _ stays

pub returns-in-Shown-clause-over : goal.returns-in-Shown-clause-over
returns-in-Shown-clause-over g c =
    let (moment, after, stays) = rw (c.in-Ok.is, c.in-Shown.is) at c.answer_next.ensures.exchange in
    stays_working g.D.Apply _ _ _ stays

pub returns-in-Ended-clause-over : goal.returns-in-Ended-clause-over
returns-in-Ended-clause-over g c =
    let (moment, after, stays) = rw (c.in-Ok.is, c.in-Ended.is) at c.answer_next.ensures.exchange in
    stays_working g.D.Apply _ _ _ stays

pub returns-in-Ran-clause-over : goal.returns-in-Ran-clause-over
returns-in-Ran-clause-over g c works = c.tell_list.ensures.over
