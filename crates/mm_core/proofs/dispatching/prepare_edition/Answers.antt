use Rattle.mm_core.proofs.dispatching.prepare_edition.Goals as goal

pub returns-in-Edition : goal.returns-in-Edition
returns-in-Edition g c =
    rw c.in-Edition.is c.open_edition.ensures

pub returns-in-Discard : goal.returns-in-Discard
returns-in-Discard g c =
    rw c.in-Discard.is c.discard.ensures

pub returns-in-Stage : goal.returns-in-Stage
returns-in-Stage g c =
    rw c.in-Stage.is c.stage.ensures
