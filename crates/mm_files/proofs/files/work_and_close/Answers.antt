use Rattle.std.proofs.Common.{inr, refl, sym, Ok}
use Rattle.mm_files.proofs.Kept.{ended_on, worked_on}
use Rattle.mm_files.proofs.files.work_and_close.Goals as goal

pub returns-in-Err-clause-worked : goal.returns-in-Err-clause-worked
returns-in-Err-clause-worked g c =
    worked_on _ _ _ _ _ _ refl c.let_go.ensures c.in-Err.ensures.clean c.in-Err.ensures.found c.in-Err.ensures.worked

pub returns-then-not-closes-clause-worked : goal.returns-then-not-closes-clause-worked
returns-then-not-closes-clause-worked g c =
    worked_on _ _ _ _ _ _ c.if-not-closes.ensures c.let_go-then-not-closes.ensures c.in-Ok.ensures.clean c.in-Ok.ensures.found
    c.in-Ok.ensures.worked

pub returns-in-Ok-close_files-clause-worked : goal.returns-in-Ok-close_files-clause-worked
returns-in-Ok-close_files-clause-worked g c =
    worked_on _ _ _ _ _ _ c.if-not-closes.ensures c.in-Ok-close_files.ensures.kept c.in-Ok.ensures.clean
    c.in-Ok.ensures.found c.in-Ok.ensures.worked

pub returns-in-Err-close_files-clause-ended : goal.returns-in-Err-close_files-clause-ended
returns-in-Err-close_files-clause-ended g c =
    ended_on _ _ _ _ _ c.if-not-closes.ensures c.in-Err-close_files.ensures.still c.in-Ok.ensures.clean
    c.in-Ok.ensures.found c.in-Ok.ensures.worked

pub returns-in-Err-close_files-clause-untold : goal.returns-in-Err-close_files-clause-untold
returns-in-Err-close_files-clause-untold g c = inr (Ok _, c.in-Ok.ensures.told, sym c.if-not-closes.ensures)
