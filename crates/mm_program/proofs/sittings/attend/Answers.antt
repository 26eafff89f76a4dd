use Rattle.std.proofs.Common.{◌∙◌, [], ◌∷◌, ◌++◌, refl, sym, inl, arith}
use Rattle.std.proofs.lemmas.Bool.{false≢true}
use Rattle.mm_desk.proofs.Told.{adds_more, adds_none, answered_more, answered_none, sits_on, visits_none}
use Rattle.mm_program.proofs.Answered.{one_status, went_all, went_last, went_none, went_on}
use Rattle.mm_desk.proofs.Sitting.{begins, turns}
use Rattle.mm_program.proofs.Attending.{attended, attended_none, turn_last, turn_next}
use Rattle.mm_program.proofs.sittings.attend.Goals as goal

pub loop-answered-init : goal.loop-answered-init
loop-answered-init g c = record {
  sat = λ works. ([], begins g.D.Apply _, works);
  told = attended_none _ _;
  went = (
    [],
    adds_none _,
    answered_none g.D.Viewer g.D.Apply _,
    went_none _ _,
    λ works. ([], begins g.D.Apply _, visits_none, works),
  );
  out = λ held. held;
}

pub returns-in-Last-clause-sat : goal.returns-in-Last-clause-sat
returns-in-Last-clause-sat g c works =
    let (visits, sat, here) = c.loop-answered.invariant.sat works in
    turns g.D.Apply visits _ _ _ works sat here c.answer_and_tell.ensures.one

pub returns-in-Last-clause-told : goal.returns-in-Last-clause-told
returns-in-Last-clause-told g c =
    turn_last _ _ _ _ _ _ _ _ _ c.loop-answered.invariant.told c.loop-answered-test.true
    (rw c.in-Last.is at c.answer_and_tell.ensures.told)

pub loop-answered-preserved : goal.loop-answered-preserved
loop-answered-preserved g c = record {
  sat = λ works.
      let (visits, sat, here) = c.loop-answered.invariant.sat works in
      let more = turns g.D.Apply visits _ _ _ works sat here c.answer_and_tell.ensures.one in
      (more.0, more.1, c.answer_and_tell.ensures.goes c.in-Next.is here);
  told = turn_next _ _ _ _ _ _ _ c.loop-answered.invariant.told (rw c.in-Next.is at c.answer_and_tell.ensures.told);
  went =
      let (all, adds, are, went, sits) = c.loop-answered.invariant.went in
      let (t, one, is, turn) = c.answer_and_tell.ensures.answered in (
        all ++ t ∷ [],
        adds_more _ _ _ all (t ∷ []) adds one,
        answered_more g.D.Viewer g.D.Apply all t _ _ _ are is,
        went_on _ all _ _ _ _ _ _ went t _ (rw c.in-Next.is at turn),
        λ works.
            let (visits, sat, of, here) = sits works in
            let more = sits_on g.D.Viewer g.D.Apply all t visits _ _ _ works sat of here is in
            (more.0, more.1, more.2, c.answer_and_tell.ensures.goes c.in-Next.is here),
      );
  out = λ held. c.answer_and_tell.ensures.out (c.loop-answered.invariant.out held);
}

pub returns-clause-sat : goal.returns-clause-sat
returns-clause-sat g c works = let (visits, sat, here) = c.loop-answered.invariant.sat works in (visits, sat)

pub returns-clause-told : goal.returns-clause-told
returns-clause-told g c =
    attended _ _ _ _ _ _ _ c.loop-answered.invariant.told (omega (arith, c.loop-answered-test.false)) (inl refl)

pub returns-in-Last-clause-answered : goal.returns-in-Last-clause-answered
returns-in-Last-clause-answered g c =
    let (all, adds, are, went, sits) = c.loop-answered.invariant.went in
    let (t, one, is, turn) = c.answer_and_tell.ensures.answered in (
      all ++ t ∷ [],
      adds_more _ _ _ all (t ∷ []) adds one,
      answered_more g.D.Viewer g.D.Apply all t _ _ _ are is,
      went_last _ all _ _ _ _ _ _ went t _ _ _ c.loop-answered-test.true (rw c.in-Last.is at turn),
      λ works.
          let (visits, sat, of, here) = sits works in
          sits_on g.D.Viewer g.D.Apply all t visits _ _ _ works sat of here is,
    )

pub returns-clause-answered : goal.returns-clause-answered
returns-clause-answered g c =
    let (all, adds, are, went, sits) = c.loop-answered.invariant.went in (
      all,
      adds,
      are,
      went_all _ _ all _ _ _ _ _ went (omega (arith, c.loop-answered-test.false)),
      λ works. let (visits, sat, of, here) = sits works in (visits, sat, of),
    )

pub returns-in-Last-clause-over : goal.returns-in-Last-clause-over
returns-in-Last-clause-over g c works down =
    let (visits, sat, here) = c.loop-answered.invariant.sat works in
    one_status _ _ (sym c.in-Last.is ∙ c.answer_and_tell.ensures.over here down)

pub returns-clause-over : goal.returns-clause-over
returns-clause-over g c works down =
    let (visits, sat, here) = c.loop-answered.invariant.sat works in absurd (false≢true (sym here ∙ down))
