use Rattle.std.proofs.Common.{◌≡◌, ◌+◌, ◌∙◌, ◌⊎◌, Err, arith, length, option_map, refl, rules}
use Rattle.csv.specs.Reading.{strip_bom}
use Rattle.csv.specs.declared.parser.State.TheVariants as states
use Rattle.mm_definitions.specs.Streams.{has_failed, inside}
use Rattle.mm_definitions.specs.declared.answers.Answer.TheVariants as answers
use Rattle.mm_run.specs.Runs.{IsRunFault, IsSome, OnRun, TellsReader}
use Rattle.mm_run.specs.Sessions.{shown_since}
use Rattle.mm_run.proofs.Loops.{read-line, stopped-fault}
use Rattle.mm_run.proofs.Ended.{ended-behind, read_not_92}
use Rattle.mm_run.proofs.Failing.{read-tells, read-why, stops-failing, stops-reader, stops-why}
use Rattle.mm_run.proofs.Left.{some-all}
use Rattle.mm_run.proofs.run.run_to_end.Goals as goal

pub returns-in-Err-tell-clause-runs : goal.returns-in-Err-tell-clause-runs
returns-in-Err-tell-clause-runs g c =
    let t = c.in-Ok.tally in
    let ran = rw c.in-Ok.is at c.run_source-held.ensures.runs in
    let new = c.run_source-held.new.session in
    let (given, told, all) = ran.done in
    let at : length given + 1 ≡ t.written + 1 = omega (arith, told.1) in
    let fault = c.in-Err-drain.fault in
    let first = g.A.Apply.has_failed c.args.session.now in
    let same = ran.session.0 in
    let stops = c.in-Err-tell.ensures.stops in
    let why : (c.in-Err-tell.e.fault.0 ≡ 97) ⊎ IsRunFault c.in-Err-tell.e.fault.0 (has_failed c.drain.new.reader) =
    stops-why (answers.Fault fault) t c.in-Err-tell.e _ _ _ _ _ _ (read-why fault.0 _ c.in-Err-drain.ensures.fault)
    stops in
    let tells : TellsReader (has_failed c.args.reader.now) (has_failed c.drain.new.reader) (Err c.in-Err-tell.e) =
    λ first down. stops-reader (answers.Fault fault) t c.in-Err-tell.e _ _ _ _ _ _ _ c.in-Err-drain.ensures.failing
    stops (ran.reader first) down in
    record {
      clean = ran.clean;
      done = tt;
      working = tt;
      flushed = c.in-Err-tell.ensures.told;
      stopped =
          stopped-fault
          (λ told w. OnRun (g.A.Apply.is_clean new) (g.A.Apply.seen c.args.session.now)
          (option_map strip_bom (g.R.Read.remaining (inside c.args.reader.now)))
          (λ p xs. IsSome p c.args.at xs states.StartRecord first (shown_since g.A.Apply c.args.session.now p new) told
          w))
          given (t.written + 1) t c.in-Err-tell.e _ _ _ _ _ _ at (ran.small.0 ∙ told.1) told ran.working fault
          (read-line fault.0 _ c.in-Err-drain.ensures.fault) stops
          (λ w enough clean p sound xs here.
          some-all p c.args.at (shown_since g.A.Apply c.args.session.now p new) xs states.StartRecord first given
          (λ q settled. settled.1) same (all clean p sound xs here) w enough);
      small = tt;
      near = c.in-Err-tell.ensures.near;
      session =
          stops-failing c.args.session.now new new first (g.A.Apply.has_failed new) (g.A.Apply.has_failed new) t
          c.in-Err-tell.e _ _ _ _ _ same ran.session.1
          (answers.Fault fault) (read-tells fault.0 _ (g.A.Apply.has_failed new) (new ≡ new) refl
          c.in-Err-drain.ensures.fault) stops;
      why = search rules;
      reader = search rules;
      kept = ran.kept;
      ended = λ was xs here.
          let h = ran.ended was xs here in
          ended-behind xs states.StartRecord t c.in-Err-tell.e (t.written + 1) _ _ _ _ _ _ ran.working h.numbers h.rows
          h.are.0 h.are.1 h.are.2 h.read h.told refl
          fault (read_not_92 fault.0 _ c.in-Err-drain.ensures.fault) (read-line fault.0 _ c.in-Err-drain.ensures.fault)
          stops;
    }
