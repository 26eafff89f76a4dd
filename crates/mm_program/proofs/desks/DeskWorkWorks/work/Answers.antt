use Rattle.std.proofs.Common.{inl}
use Rattle.mm_program.proofs.Left.{leaves_same, leaves_service, tells_declined}
use Rattle.mm_program.proofs.Attending.{leaves_desk, tells_desk, tells_unseated}
use Rattle.std.proofs.lemmas.Result.{err_from_is_err_and}
use Rattle.mm_program.proofs.desks.DeskWorkWorks.work.Goals as goal

pub returns-in_err-session-clause-found : goal.returns-in_err-session-clause-found
returns-in_err-session-clause-found g c =
    let p = err_from_is_err_and c.from_residual.result c.from_residual.ensures.1 in
    rw (p.1, p.2) (λ clean x stands.
    inl (tells_declined _ _ c.requires.fresh clean _ c.in_err-session.ensures.declined x stands))

pub returns-in_err-session-clause-worked : goal.returns-in_err-session-clause-worked
returns-in_err-session-clause-worked g c =
    let p = err_from_is_err_and c.from_residual.result c.from_residual.ensures.1 in
    rw (p.1, p.2) (λ clean. leaves_same _ _ c.requires.fresh clean c.in_err-session.ensures.declined.1.survives)

pub returns-in-Ok-clause-found : goal.returns-in-Ok-clause-found
returns-in-Ok-clause-found g c =
    rw c.close.ensures
    (λ clean. tells_desk _ _ _ c.requires.fresh clean c.in_ok-session.ensures.adopted
    (c.in-Ok.ensures.sat c.in_ok-session.ensures.working) c.in-Ok.status)

pub returns-in-Ok-clause-worked : goal.returns-in-Ok-clause-worked
returns-in-Ok-clause-worked g c =
    rw c.close.ensures
    (λ clean. leaves_desk _ _ _ c.requires.fresh clean c.in_ok-session.ensures.adopted
    (c.in-Ok.ensures.sat c.in_ok-session.ensures.working) c.in-Ok.status)

pub returns-in-Err-clause-found : goal.returns-in-Err-clause-found
returns-in-Err-clause-found g c =
    rw c.close-in-Err.ensures
    (λ clean. tells_unseated _ _ _ c.requires.fresh clean c.in_ok-session.ensures.adopted
    c.in-Err.ensures.kept.survives _ c.in-Err.ensures.stopped)

pub returns-in-Err-clause-worked : goal.returns-in-Err-clause-worked
returns-in-Err-clause-worked g c =
    rw c.close-in-Err.ensures
    (λ clean. leaves_service _ _ _ c.requires.fresh clean c.in_ok-session.ensures.adopted
    c.in-Err.ensures.kept.survives)
