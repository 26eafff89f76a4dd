use Rattle.std.proofs.lemmas.Result.{err_from_is_err_and}
use Rattle.mm_program.proofs.Left.{found_adopted, leaves_same, tells_declined}
use Rattle.mm_program.proofs.reporting.CheckWorks.work.Goals as goal

pub returns-in_err-session-clause-found : goal.returns-in_err-session-clause-found
returns-in_err-session-clause-found g c =
    let p = err_from_is_err_and c.from_residual.result c.from_residual.ensures.1 in
    rw (p.1, p.2) (λ clean. tells_declined _ _ c.requires.fresh clean _ c.in_err-session.ensures.declined)

pub returns-in_err-session-clause-worked : goal.returns-in_err-session-clause-worked
returns-in_err-session-clause-worked g c =
    let p = err_from_is_err_and c.from_residual.result c.from_residual.ensures.1 in
    rw (p.1, p.2) (λ clean. leaves_same _ _ c.requires.fresh clean c.in_err-session.ensures.declined.1.survives)

pub returns-clause-found : goal.returns-clause-found
returns-clause-found g c =
    rw c.close.ensures (λ clean. found_adopted _ _ c.requires.fresh clean c.in_ok-session.ensures.adopted)

pub returns-clause-worked : goal.returns-clause-worked
returns-clause-worked g c =
    rw c.close.ensures (λ clean. leaves_same _ _ c.requires.fresh clean c.in_ok-session.ensures.adopted.survives)
