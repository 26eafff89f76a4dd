use Rattle.std.proofs.lemmas.Result.{IfOk-weaker}
use Rattle.mm_recovery.proofs.Closed.{both_errors, close_stopped, not_reopened}
use Rattle.mm_recovery.proofs.closing.close_and_adopt.Goals as goal

pub returns-in-Ok-clause-reopened : goal.returns-in-Ok-clause-reopened
returns-in-Ok-clause-reopened g c =
    IfOk-weaker c.adopt_left.result _ _
    (λ again adopts. adopts c.args.session.conn (rw c.close.ensures at c.in-Ok.ensures.closed))
    c.adopt_left.ensures.reopened

pub returns-in-Ok-clause-not_reopened : goal.returns-in-Ok-clause-not_reopened
returns-in-Ok-clause-not_reopened g c =
    both_errors c.adopt_left.result _ _ _
    (λ e. not_reopened c.args.session.conn c.in-Ok.files e (rw c.close.ensures at c.in-Ok.ensures.closed))
    c.adopt_left.ensures.declined c.adopt_left.ensures.not_reopened

pub returns-in-Err-clause-not_reopened : goal.returns-in-Err-clause-not_reopened
returns-in-Err-clause-not_reopened g c =
    close_stopped c.args.session.conn c.in-Err.stop (rw c.close.ensures at c.in-Err.ensures.not_closed)
