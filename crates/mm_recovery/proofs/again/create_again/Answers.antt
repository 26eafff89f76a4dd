use Rattle.mm_recovery.proofs.MadeAgain.{made_again, stopped_again}
use Rattle.mm_recovery.proofs.again.create_again.Goals as goal

pub returns-in-Ok-create_or_adopt-clause-made : goal.returns-in-Ok-create_or_adopt-clause-made
returns-in-Ok-create_or_adopt-clause-made g c old left =
    made_again _ _ (c.in-Ok.ensures.found old left) _ c.in-Ok-create_or_adopt.ensures.made_or_found

pub returns-in-Err-create_or_adopt-clause-not_made : goal.returns-in-Err-create_or_adopt-clause-not_made
returns-in-Err-create_or_adopt-clause-not_made g c = (
  c.in-Err-create_or_adopt.ensures.handed_back,
  λ old left. stopped_again _ _ (c.in-Ok.ensures.found old left) _ c.in-Err-create_or_adopt.why
      c.in-Err-create_or_adopt.ensures.neither,
)
