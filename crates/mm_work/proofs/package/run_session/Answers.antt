use Rattle.std.proofs.Common.{rules, ◌≡◌, inl, inr, refl}
use Rattle.std.specs.Prelude.{◌≢◌}
use Rattle.mm_run.proofs.Reports.{ran-all-flagged, ran-some-less}
use Rattle.mm_work.proofs.package.run_session.Goals as goal

pub returns-in-Ok-clause-ran : goal.returns-in-Ok-clause-ran
returns-in-Ok-clause-ran g c clean p sound bytes is =
    let none_refused : c.in-Ok.tally.refused ≡ 0 = search rules in
    inl (
      c.in-Ok.tally,
      ran-all-flagged p c.args.at bytes _ _ _ _ c.in-Ok.tally (c.in-Ok.ensures.settled.done clean p sound bytes is),
      inl (none_refused, refl),
    )

pub returns-in-Ok-2-clause-ran : goal.returns-in-Ok-2-clause-ran
returns-in-Ok-2-clause-ran g c clean p sound bytes is =
    let some_refused : c.in-Ok-2.field-0.refused ≢ 0 = search rules in
    let ran = c.in-Ok-2.ensures.settled.done clean p sound bytes is in
    inl (c.in-Ok-2.field-0, ran-all-flagged p c.args.at bytes _ _ _ _ c.in-Ok-2.field-0 ran, inr (some_refused, refl))

pub returns-in-Err-clause-ran : goal.returns-in-Err-clause-ran
returns-in-Err-clause-ran g c clean p sound bytes is =
    let ran = c.in-Err.ensures.settled.stopped clean p sound bytes is in
    inr (
      c.in-Err.field-0,
      ran-some-less p c.args.at bytes _ _ _ _ _ _ _ _ c.in-Err.field-0 (λ q works. works.1.0) (λ _. tt) ran,
      refl,
    )

pub returns-in-Ok-clause-kept : goal.returns-in-Ok-clause-kept
returns-in-Ok-clause-kept g c clean p settled meets = (c.in-Ok.ensures.settled.kept clean p (settled, meets)).0

pub returns-in-Ok-2-clause-kept : goal.returns-in-Ok-2-clause-kept
returns-in-Ok-2-clause-kept g c clean p settled meets = (c.in-Ok-2.ensures.settled.kept clean p (settled, meets)).0

pub returns-in-Err-clause-kept : goal.returns-in-Err-clause-kept
returns-in-Err-clause-kept g c clean p settled meets = (c.in-Err.ensures.settled.kept clean p (settled, meets)).0
