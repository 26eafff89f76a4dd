use Rattle.std.proofs.Common.{refl, subst, sym}
use Rattle.mm_definitions.specs.Streams.{written}
use Rattle.mm_program.specs.Told.{IsOutcome}
use Rattle.mm_program.proofs.Ended.{has_status}
use Rattle.mm_program.proofs.outcomes.work_and_tell.Goals as goal

-- the status is the work's own
pub returns-in-Ok-clause-told : goal.returns-in-Ok-clause-told
returns-in-Ok-clause-told g c =
    let new = written g.W.Write.contents c.on_old-done.new.output in
    let it = c.on_old-done.ensures.worked in (
      new,
      c.on_old-done.result.0,
      it.ended,
      (
        (has_status g.T.Exits.status c.requires.ends it).1,
        subst (λ o. IsOutcome g.T.Exits.status new new o c.status.result) (sym c.in-Ok.is) (refl, c.status.ensures),
      ),
      it.unprinted,
      it.files,
    )

-- or why it was not done is told behind it
pub returns-in-Err-clause-told : goal.returns-in-Err-clause-told
returns-in-Err-clause-told g c =
    let between = written g.W.Write.contents c.on_old-done.new.output in
    let new = written g.W.Write.contents c.tell_stop.new.output in
    let it = c.on_old-done.ensures.worked in (
      between,
      c.on_old-done.result.0,
      it.ended,
      (
        (has_status g.T.Exits.status c.requires.ends it).1,
        subst (λ o. IsOutcome g.T.Exits.status between new o c.tell_stop.result) (sym c.in-Err.is)
            c.tell_stop.ensures.told,
      ),
      it.unprinted,
      it.files,
    )
