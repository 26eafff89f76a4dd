use Rattle.std.proofs.Common.{◌≡◌, ◌∙◌, ap, refl, subst, sym}
use Rattle.mm_run.specs.Sessions.{shown_since}
use Rattle.mm_run.proofs.Answered.{answered_command, answered_unread, fault-fails}
use Rattle.mm_run.proofs.Failing.{applied-tells, unread-tells}
use Rattle.mm_run.proofs.Kept.{kept-answered, kept-sound}
use Rattle.mm_run.proofs.Since.{begins}
use Rattle.mm_run.proofs.answering.answer_row.Goals as goal

pub returns-in-Ok-clause-answered : goal.returns-in-Ok-clause-answered
returns-in-Ok-clause-answered g c clean p sound fields reads =
    let read = rw c.in-Ok.is at reads in
    let here = c.args.session.now in
    let before = g.A.Apply.has_failed here in
    let failed = g.A.Apply.has_failed c.apply.new.self in
    answered_command fields p c.args.at before (shown_since g.A.Apply here p c.apply.new.self) c.in-Ok.command
    c.apply.result read
    c.milliseconds-milliseconds.ensures.within sound.1
    (fault-fails before failed c.apply.result (λ was. ap g.A.Apply.has_failed (c.apply.ensures.ended was).1 ∙ was)
    c.apply.ensures.fails)
    (c.apply.ensures.applied clean p sound.0 sound.1)

pub returns-in-Err-clause-answered : goal.returns-in-Err-clause-answered
returns-in-Err-clause-answered g c clean p sound fields reads =
    let here = c.args.session.now in
    rw c.unread_answer.ensures (answered_unread fields p c.args.at _ (shown_since g.A.Apply here p here) c.in-Err.fault
    (rw c.in-Err.is at reads) refl (begins g.A.Apply here p sound))

pub returns-in-Err-clause-faults : goal.returns-in-Err-clause-faults
returns-in-Err-clause-faults g c = rw c.unread_answer.ensures
    (unread-tells c.in-Err.fault (g.A.Apply.has_failed c.args.session.now) (c.args.session.now ≡ c.args.session.now)
    refl).0

pub returns-in-Err-clause-session : goal.returns-in-Err-clause-session
returns-in-Err-clause-session g c = rw c.unread_answer.ensures
    (unread-tells c.in-Err.fault (g.A.Apply.has_failed c.args.session.now) (c.args.session.now ≡ c.args.session.now)
    refl).1

pub returns-in-Ok-clause-kept : goal.returns-in-Ok-clause-kept
returns-in-Ok-clause-kept g c fields reads clean p sound =
    let here = c.args.session.now in
    let new = c.apply.new.self in
    let before = g.A.Apply.has_failed here in
    let failed = g.A.Apply.has_failed new in
    let tells = applied-tells before failed (new ≡ here) c.apply.result c.apply.ensures.faults c.apply.ensures.ended
    c.apply.ensures.working c.apply.ensures.fails in
    kept-answered (shown_since g.A.Apply here p new) (λ q settled. settled.1) fields p c.args.at before c.apply.result
    (new ≡ here) sound.1
    (λ same. subst (λ s. (shown_since g.A.Apply here p s).settled p) (sym same) (begins g.A.Apply here p sound).0) tells
    (returns-in-Ok-clause-answered g c clean p sound fields reads)

pub returns-in-Err-clause-kept : goal.returns-in-Err-clause-kept
returns-in-Err-clause-kept g c fields reads clean p sound =
    let here = c.args.session.now in
    kept-sound (shown_since g.A.Apply here p here) (λ q settled. settled.1) (g.A.Apply.has_failed here) p
    (begins g.A.Apply here p sound)
