use Rattle.mm_recovery.proofs.Recovering.{recovers_by, declines_by, reopens_by, redeclines_by}
use Rattle.mm_recovery.proofs.sessions.adopt_left.Goals as goal

pub returns-in-Ok-adopt-clause-recovered : goal.returns-in-Ok-adopt-clause-recovered
returns-in-Ok-adopt-clause-recovered g c old left =
    recovers_by _ _ _ (c.in-Ok.ensures.found old left) c.in-Ok-adopt.ensures.adopted

pub returns-in-Ok-adopt-clause-reopened : goal.returns-in-Ok-adopt-clause-reopened
returns-in-Ok-adopt-clause-reopened g c old closed =
    reopens_by _ _ _ (c.in-Ok.ensures.closed old closed) c.in-Ok-adopt.ensures.adopted

pub returns-in-Err-adopt-clause-declined : goal.returns-in-Err-adopt-clause-declined
returns-in-Err-adopt-clause-declined g c = (
  c.in-Err-adopt.ensures.handed_back,
  λ old left. declines_by _ _ _ (c.in-Ok.ensures.found old left) c.in-Err-adopt.why
      c.in-Err-adopt.ensures.handed_back c.in-Err-adopt.ensures.not_adopted,
)

pub returns-in-Err-adopt-clause-not_reopened : goal.returns-in-Err-adopt-clause-not_reopened
returns-in-Err-adopt-clause-not_reopened g c old closed =
    redeclines_by _ _ _ (c.in-Ok.ensures.closed old closed) c.in-Err-adopt.why c.in-Err-adopt.ensures.handed_back
    c.in-Err-adopt.ensures.not_adopted
