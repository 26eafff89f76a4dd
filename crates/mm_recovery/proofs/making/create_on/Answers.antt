use Rattle.mm_recovery.proofs.MadeAgain.{made_on, left_on, store_fault}
use Rattle.mm_recovery.proofs.making.create_on.Goals as goal

pub returns-in-Ok-create-clause-made : goal.returns-in-Ok-create-clause-made
returns-in-Ok-create-clause-made g c =
    made_on g.D.Disk c.args.files _ _ c.in-Ok.ensures.new c.in-Ok-create.ensures.created

pub returns-in-Err-create-clause-left : goal.returns-in-Err-create-clause-left
returns-in-Err-create-clause-left g c = (
  c.in-Err-create.ensures.handed_back,
  store_fault c.in-Err-create.fault c.in-Err-create.ensures.faults,
  left_on g.D.Disk c.args.files _ _ c.in-Ok.ensures.new c.in-Err-create.ensures.not_created,
)
