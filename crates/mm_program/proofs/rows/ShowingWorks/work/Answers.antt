use Rattle.std.proofs.Common.{inl, refl}
use Rattle.std.proofs.lemmas.Result.{err_from_is_err_and}
use Rattle.mm_definitions.specs.Streams.{written}
use Rattle.mm_work.specs.Shown.{shown_status, shown_text}
use Rattle.mm_program.proofs.Left.{leaves_same, leaves_service, on_for, tells_cut, tells_declined, tells_text}
use Rattle.mm_program.proofs.rows.ShowingWorks.work.Goals as goal

pub returns-in_err-session-clause-found : goal.returns-in_err-session-clause-found
returns-in_err-session-clause-found g c =
    let p = err_from_is_err_and c.from_residual.result c.from_residual.ensures.1 in
    rw (p.1, p.2) (λ clean x stands.
    inl (tells_declined _ _ c.requires.fresh clean _ c.in_err-session.ensures.declined x stands, refl))

pub returns-in_err-session-clause-worked : goal.returns-in_err-session-clause-worked
returns-in_err-session-clause-worked g c =
    let p = err_from_is_err_and c.from_residual.result c.from_residual.ensures.1 in
    rw (p.1, p.2) (λ clean. leaves_same _ _ c.requires.fresh clean c.in_err-session.ensures.declined.1.survives)

pub returns-in-Ok-clause-found : goal.returns-in-Ok-clause-found
returns-in-Ok-clause-found g c =
    let it = c.args.self.now in
    let adopted = c.in_ok-session.ensures.adopted in
    let kept = c.rows_told.ensures.kept in
    rw c.close.ensures
    (λ clean. tells_text _ _ _ c.requires.fresh clean adopted kept.survives (λ p. shown_text p it.table.now it.id)
    (λ p. shown_status p it.table.now it.id) (written g.W.Write.contents c.args.output.now)
    (written g.W.Write.contents c.rows_told.new.output) c.in-Ok.status
    (λ p stands. (rw c.in_ok-session.ensures.working at c.in-Ok.ensures.told) p
    (on_for _ _ _ c.requires.fresh clean adopted kept.survives p stands)))

pub returns-in-Ok-clause-worked : goal.returns-in-Ok-clause-worked
returns-in-Ok-clause-worked g c =
    let kept = c.rows_told.ensures.kept in
    rw c.close.ensures
    (λ clean. leaves_service _ _ _ c.requires.fresh clean c.in_ok-session.ensures.adopted kept.survives)

pub returns-in-Err-clause-found : goal.returns-in-Err-clause-found
returns-in-Err-clause-found g c =
    let it = c.args.self.now in
    let adopted = c.in_ok-session.ensures.adopted in
    let kept = c.rows_told.ensures.kept in
    rw c.close-in-Err.ensures
    (λ clean. tells_cut _ _ _ c.requires.fresh clean adopted kept.survives (λ p. shown_text p it.table.now it.id)
    (λ p. shown_status p it.table.now it.id) (written g.W.Write.contents c.args.output.now)
    (written g.W.Write.contents c.rows_told.new.output) c.in-Err.fault
    (λ p stands. (rw c.in_ok-session.ensures.working at c.in-Err.ensures.told) p
    (on_for _ _ _ c.requires.fresh clean adopted kept.survives p stands))
    (c.in-Err.ensures.writer c.in_ok-session.ensures.working))

pub returns-in-Err-clause-worked : goal.returns-in-Err-clause-worked
returns-in-Err-clause-worked g c =
    let kept = c.rows_told.ensures.kept in
    rw c.close-in-Err.ensures
    (λ clean. leaves_service _ _ _ c.requires.fresh clean c.in_ok-session.ensures.adopted kept.survives)
