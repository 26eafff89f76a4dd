use Rattle.std.proofs.lemmas.Result.{err_from_is_err_and}
use Rattle.mm_program.proofs.Left.{leaves_same, ran_to, settled_for, tells_declined, was_well}
use Rattle.mm_program.proofs.subcommands.RunWorks.work.Goals as goal

pub returns-in_err-session-clause-found : goal.returns-in_err-session-clause-found
returns-in_err-session-clause-found g c =
    let p = err_from_is_err_and c.from_residual.result c.from_residual.ensures.1 in
    rw (p.1, p.2) (λ clean. tells_declined _ _ c.requires.fresh clean _ c.in_err-session.ensures.declined)

pub returns-in_err-session-clause-worked : goal.returns-in_err-session-clause-worked
returns-in_err-session-clause-worked g c =
    let p = err_from_is_err_and c.from_residual.result c.from_residual.ensures.1 in
    rw (p.1, p.2) (λ clean. leaves_same _ _ c.requires.fresh clean c.in_err-session.ensures.declined.1.survives)

pub returns-clause-found : goal.returns-clause-found
returns-clause-found g c =
    let adopted = c.in_ok-session.ensures.adopted in
    rw c.close.ensures
    (λ clean. was_well _ _ c.requires.fresh adopted (c.run_session-status.ensures.clean clean))

pub returns-clause-worked : goal.returns-clause-worked
returns-clause-worked g c =
    let adopted = c.in_ok-session.ensures.adopted in
    let it = c.run_session-status.ensures in
    rw c.close.ensures (λ clean after may p stands meets.
    let settled = settled_for _ _ c.requires.fresh adopted (it.clean clean) p stands in (
      it.kept clean p settled meets after may,
      λ bytes is. ran_to p _ bytes _ _ _ _ after may (it.ran clean p (settled, meets) bytes is),
    ))
