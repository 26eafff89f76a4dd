use Rattle.std.proofs.Common.{◌≡◌, ◌+◌, ◌-◌, ◌^◌, ◌∙◌, [], ◌∷◌, ◌++◌, false, inl, refl, ap, arith, length, sym, true}
use Rattle.std.proofs.Common.{None, Some}
use Rattle.csv.specs.Reading.{source_of}
use Rattle.mm_definitions.specs.declared.answers.Answer.TheVariants as answers
use Rattle.mm_definitions.specs.declared.answers.Fault.{Fault}
use Rattle.mm_run.specs.Sessions.{shown_since}
use Rattle.mm_run.specs.Runs.{IsSome, OnRun}
use Rattle.mm_run.proofs.Loops.{counted-once, run-line, stopped-fault, stopped-with, told-more, told-none, written-once}
use Rattle.mm_run.proofs.Kept.{kept-sound}
use Rattle.mm_run.proofs.Ended.{ended-all, ended-behind, ended-more, ended-none, ended-stopped}
use Rattle.mm_run.proofs.Left.{all-answered, so_far-more, so_far-none, some-faulted, some-last, some-so_far}
use Rattle.mm_run.proofs.Failing.{goes-ended, goes-same, stops-failing, stops-reader, stops-why, tells_on}
use Rattle.mm_run.proofs.Since.{begins, kept_since, turns_since}
use Rattle.mm_run.proofs.run.run_rows.Goals as goal

pub loop-n-init : goal.loop-n-init
loop-n-init g c = record {
  set_up = c.requires;
  counted = refl;
  numbered = refl;
  flushed = λ was. was;
  working = refl;
  clean = λ is. is;
  same = refl;
  ended = λ was. (refl, refl);
  reading = λ first. first;
  given = (
    [],
    told-none _ _ refl refl refl,
    λ clean p sound xs here.
        so_far-none p c.args.at xs _ _ (shown_since g.A.Apply c.args.session.now p c.args.session.now).settled here
        (begins g.A.Apply c.args.session.now p sound),
  );
  kept = λ clean p sound.
      kept-sound (shown_since g.A.Apply c.args.session.now p c.args.session.now) (λ q settled. settled.1)
      (g.A.Apply.has_failed c.args.session.now) p
      (begins g.A.Apply c.args.session.now p sound);
  refused = λ was xs here. ended-none xs _ _ _ _ here (told-none _ _ refl refl refl);
}

pub returns-in-None : goal.returns-in-None
returns-in-None g c =
    let inv = c.loop-n.invariant in
    let A = g.A.Apply in
    let old = c.args.session.now in
    let mid = c.loop-n.session in
    let new = c.turn.new.session in
    let (given, told, so_far) = inv.given in
    let still = rw c.in-None.is at c.turn.ensures.still in
    record {
      clean = λ clean. inv.clean (c.turn.ensures.clean clean);
      done = (
        given,
        told,
        λ clean p sound xs here.
            all-answered g.T.Read.remaining c.loop-n.rows c.turn.new.rows p c.args.at xs c.args.rows.now.state
            (shown_since A old p mid).settled
            (shown_since A old p new)
            (A.has_failed old) (A.has_failed mid) given inv.set_up.config
            (so_far (c.turn.ensures.clean clean) p sound xs here)
            (turns_since A g.T.Read.remaining c.loop-n.rows c.turn.new.rows old p mid new c.args.at (A.has_failed mid)
            None
            (λ q sound. rw c.in-None.is at (c.turn.ensures.turns clean q sound))),
      );
      working = inv.working;
      flushed = inv.flushed;
      stopped = tt;
      small = (omega arith, omega arith);
      near = tt;
      session = (ap A.has_failed still ∙ inv.same, λ was. let before = inv.ended was in (still ∙ before.0, before.1));
      why = tt;
      reader = λ first. (rw c.in-None.is at c.turn.ensures.reader) (inv.reading first);
      kept = kept_since A old mid new c.turn.ensures.clean inv.same inv.kept c.turn.ensures.kept;
      ended = λ was xs here.
          ended-all g.T.Read.remaining c.loop-n.rows c.turn.new.rows xs c.args.rows.now.state c.loop-n.tally _
          _ inv.set_up.config (inv.refused was xs here)
          (rw c.in-None.is at (c.turn.ensures.ended (inv.same ∙ was)));
    }

pub loop-n-preserved : goal.loop-n-preserved
loop-n-preserved g c =
    let inv = c.loop-n.invariant in
    let A = g.A.Apply in
    let old = c.args.session.now in
    let mid = c.loop-n.session in
    let new = c.turn.new.session in
    let (given, told, so_far) = inv.given in
    let goes = c.in-Ok.ensures.goes in
    let once : c.in-Ok.next.accepted + c.in-Ok.next.refused ≡ c.loop-n.tally.accepted + c.loop-n.tally.refused + 1 =
    counted-once c.in-Some.answer c.loop-n.tally c.in-Ok.next goes.0 goes.1 in
    let line : c.in-Ok.next.written ≡ c.loop-n.tally.written + 1 = written-once c.in-Some.answer c.loop-n.tally
    c.in-Ok.next goes.1 in
    let at : length given + 1 ≡ c.loop-n.n = omega (arith, told.1) in
    record {
      set_up = c.in-Some.ensures.stays goes.0;
      counted = omega arith;
      numbered = omega arith;
      flushed = λ was. c.in-Ok.ensures.flushed;
      working = goes.3 ∙ inv.working;
      clean = λ clean. inv.clean (c.turn.ensures.clean clean);
      same = goes-same c.in-Some.answer _ _ _ goes.0 c.in-Some.ensures.going ∙ inv.same;
      ended = λ was.
          let before = inv.ended was in
          let on = goes-ended c.in-Some.answer _ _ _ c.loop-n.tally c.in-Ok.next goes.0 c.in-Some.ensures.going
          (inv.same ∙ was) goes.1 in
          (on.0 ∙ before.0, on.1 ∙ before.1);
      reading = λ first. tells_on _ _ c.in-Some.answer goes.0 (rw c.in-Some.is at c.turn.ensures.reader)
          (inv.reading first);
      given = (
        given ++ c.in-Some.answer ∷ [],
        told-more given c.in-Some.answer c.loop-n.tally c.in-Ok.next c.loop-n.n _ _ _ _ _ told goes at,
        λ clean p sound xs here.
            so_far-more g.T.Read.remaining c.loop-n.rows c.turn.new.rows p c.args.at xs c.args.rows.now.state
            (shown_since A old p mid).settled
            (shown_since A old p new)
            (A.has_failed old) (A.has_failed mid) given inv.set_up.config
            (so_far (c.turn.ensures.clean clean) p sound xs here) c.in-Some.answer
            (turns_since A g.T.Read.remaining c.loop-n.rows c.turn.new.rows old p mid new c.args.at (A.has_failed mid)
            (Some c.in-Some.answer)
            (λ q sound. rw c.in-Some.is at (c.turn.ensures.turns clean q sound))) goes.0,
      );
      kept = kept_since A old mid new c.turn.ensures.clean inv.same inv.kept c.turn.ensures.kept;
      refused = λ was xs here.
          ended-more g.T.Read.remaining c.loop-n.rows c.turn.new.rows xs c.args.rows.now.state c.loop-n.tally _
          _ inv.set_up.config (inv.refused was xs here)
          c.in-Some.answer c.in-Ok.next c.loop-n.n _ _ _ (rw c.in-Some.is at (c.turn.ensures.ended (inv.same ∙ was)))
          goes inv.numbered;
    }

pub returns-in-Err : goal.returns-in-Err
returns-in-Err g c =
    let inv = c.loop-n.invariant in
    let A = g.A.Apply in
    let old = c.args.session.now in
    let mid = c.loop-n.session in
    let new = c.turn.new.session in
    let (given, told, so_far) = inv.given in
    let at : length given + 1 ≡ c.loop-n.n = omega (arith, told.1) in
    let first = A.has_failed old in
    let before = A.has_failed mid in
    record {
      clean = λ clean. inv.clean (c.turn.ensures.clean clean);
      done = tt;
      working = tt;
      flushed = c.in-Err.ensures.told;
      stopped =
          stopped-with
          (λ told w. OnRun (A.is_clean new) (A.seen old) (source_of g.T.Read.remaining c.args.rows.now)
          (λ p xs. IsSome p c.args.at xs c.args.rows.now.state first (shown_since A old p new) told w))
          given c.loop-n.n c.loop-n.tally c.in-Err.e _ _ _ _ _ _ at (omega arith) told inv.working c.in-Some.answer
          (run-line c.in-Some.answer _ c.in-Some.ensures.faults) c.in-Err.ensures.stops
          (λ faulted w enough clean p sound xs here.
          some-faulted g.T.Read.remaining c.loop-n.rows c.turn.new.rows p c.args.at xs c.args.rows.now.state
          (shown_since A old p mid).settled
          (shown_since A old p new)
          first before given inv.set_up.config (so_far (c.turn.ensures.clean clean) p sound xs here)
          (λ q settled. settled.1) inv.same c.in-Some.answer faulted
          (turns_since A g.T.Read.remaining c.loop-n.rows c.turn.new.rows old p mid new c.args.at (A.has_failed mid)
          (Some c.in-Some.answer)
          (λ q sound. rw c.in-Some.is at (c.turn.ensures.turns clean q sound))) w enough)
          (λ good w enough clean p sound xs here.
          some-last p c.args.at (shown_since A old p new) xs c.args.rows.now.state first given c.in-Some.answer
          (λ q settled. settled.1) (goes-same c.in-Some.answer _ _ _ good c.in-Some.ensures.going ∙ inv.same) _ _
          (so_far-more g.T.Read.remaining c.loop-n.rows c.turn.new.rows p c.args.at xs c.args.rows.now.state
          (shown_since A old p mid).settled
          (shown_since A old p new)
          first before given inv.set_up.config (so_far (c.turn.ensures.clean clean) p sound xs here) c.in-Some.answer
          (turns_since A g.T.Read.remaining c.loop-n.rows c.turn.new.rows old p mid new c.args.at (A.has_failed mid)
          (Some c.in-Some.answer)
          (λ q sound. rw c.in-Some.is at (c.turn.ensures.turns clean q sound))) good) w enough);
      small = tt;
      near = c.in-Err.ensures.near;
      session =
          stops-failing old mid new first before (A.has_failed new)
          c.loop-n.tally c.in-Err.e _ _ _ _ _ inv.same inv.ended c.in-Some.answer c.in-Some.ensures.going
          c.in-Err.ensures.stops;
      why = stops-why c.in-Some.answer c.loop-n.tally c.in-Err.e _ _ _ _ _ _ c.in-Some.ensures.faults
          c.in-Err.ensures.stops;
      reader = λ first down.
          stops-reader c.in-Some.answer c.loop-n.tally c.in-Err.e _ _ _ _ _ _ _
          (rw c.in-Some.is at c.turn.ensures.reader) c.in-Err.ensures.stops (inv.reading first) down;
      kept = kept_since A old mid new c.turn.ensures.clean inv.same inv.kept c.turn.ensures.kept;
      ended = λ was xs here.
          ended-stopped g.T.Read.remaining c.loop-n.rows c.turn.new.rows xs c.args.rows.now.state c.loop-n.tally _
          _ inv.set_up.config (inv.refused was xs here)
          c.in-Err.e c.loop-n.n _ _ _ _ inv.working c.in-Some.answer
          (run-line c.in-Some.answer _ c.in-Some.ensures.faults)
          (rw c.in-Some.is at (c.turn.ensures.ended (inv.same ∙ was))) c.in-Err.ensures.stops inv.numbered;
    }

pub returns : goal.returns
returns g c =
    let inv = c.loop-n.invariant in
    let A = g.A.Apply in
    let old = c.args.session.now in
    let new = c.loop-n.session in
    let (given, told, so_far) = inv.given in
    let end : c.loop-n.n ≡ 2 ^ 64 - 1 = omega (arith, c.loop-n-test.false) in
    let at : length given + 1 ≡ 2 ^ 64 - 1 = omega (arith, told.1) in
    let first = A.has_failed old in
    let before = A.has_failed new in
    let memory : Fault = record { 0 = 90 } in
    record {
      clean = inv.clean;
      done = tt;
      working = tt;
      flushed = c.tell_endless.ensures.told;
      stopped =
          stopped-fault
          (λ told w. OnRun (A.is_clean new) (A.seen old) (source_of g.T.Read.remaining c.args.rows.now)
          (λ p xs. IsSome p c.args.at xs c.args.rows.now.state first (shown_since A old p new) told w))
          given (2 ^ 64 - 1) c.loop-n.tally c.tell_endless.result _ _ _ _ _ _ at (omega arith) told inv.working memory
          (inl (inl refl)) c.tell_endless.ensures.stops
          (λ w enough clean p sound xs here.
          some-so_far p c.args.at (shown_since A old p new) xs c.args.rows.now.state first given
          (λ q settled. settled.1) inv.same _ _ (so_far clean p sound xs here) w enough);
      small = tt;
      near = c.tell_endless.ensures.near;
      session =
          stops-failing old new new first before before c.loop-n.tally c.tell_endless.result _ _ _ _
          _ inv.same inv.ended (answers.Fault memory)
          (λ e. absurd (omega arith), λ e. absurd (omega arith), λ e. refl, λ e. refl) c.tell_endless.ensures.stops;
      reader = λ first down. absurd (let g : false ≡ true = sym (inv.reading first) ∙ down in cc);
      why = stops-why (answers.Fault memory) c.loop-n.tally c.tell_endless.result _ _ _ _ _ _ (inl (inl refl))
          c.tell_endless.ensures.stops;
      kept = inv.kept;
      ended = λ was xs here.
          let h = inv.refused was xs here in
          ended-behind xs c.args.rows.now.state c.loop-n.tally c.tell_endless.result (2 ^ 64 - 1) _ _ _ _ _
          _ inv.working h.numbers h.rows c.loop-n.rows.state h.rest h.reached h.read h.told
          (inv.numbered ∙ end) memory (λ e. absurd (omega arith)) (inl (inl refl)) c.tell_endless.ensures.stops;
    }
