use Rattle.std.proofs.lemmas.Result.{err_from_is_err_and}
use Rattle.sqlite.specs.Held.{state}
use Rattle.sqlite.specs.State.{HasCleanDisk}
use Rattle.mm_core.proofs.Applies.{session, session_settled}
use Rattle.mm_core.specs.Parts.{connection}
use Rattle.mm_kit.proofs.Since.{imports_settled}
use Rattle.mm_program.proofs.Left.{leaves_import, leaves_same, tells_declined, was_well}
use Rattle.mm_program.proofs.kits.ImportingWorks.work.Goals as goal

pub returns-in_err-session-clause-found : goal.returns-in_err-session-clause-found
returns-in_err-session-clause-found g c =
    let p = err_from_is_err_and c.from_residual.result c.from_residual.ensures.1 in
    rw (p.1, p.2) (λ clean. tells_declined _ _ c.requires.fresh clean _ c.in_err-session.ensures.declined)

pub returns-in_err-session-clause-worked : goal.returns-in_err-session-clause-worked
returns-in_err-session-clause-worked g c =
    let p = err_from_is_err_and c.from_residual.result c.from_residual.ensures.1 in
    rw (p.1, p.2) (λ clean. leaves_same _ _ c.requires.fresh clean c.in_err-session.ensures.declined.1.survives)

pub returns-clause-found : goal.returns-clause-found
returns-clause-found g c =
    let adopted = c.in_ok-session.ensures.adopted in
    rw c.close.ensures
    (λ clean. was_well _ _ c.requires.fresh adopted (c.import_kit-import.ensures.clean clean))

pub returns-clause-worked : goal.returns-clause-worked
returns-clause-worked g c =
    let new = c.import_kit-import.new.editor in
    let it = c.args.self.now in
    let import =
    imports_settled (session g.S.Store) (session_settled g.S.Store) it.edition.now
    (HasCleanDisk (state g.S.Store (connection new)))
    c.in_ok-session.session new (g.F.Folder.files it.folder) c.import_kit-import.result
    c.import_kit-import.ensures.seen in
    rw c.close.ensures
    (λ clean. leaves_import _ _ _ c.requires.fresh c.in_ok-session.ensures.adopted c.import_kit-import.ensures.clean clean
    _ _ c.import_kit-import.result import.answered import.stopped import.kept)
