use Rattle.std.proofs.Common.{inr, sym, ◌∙◌}
use Rattle.mm_definitions.proofs.RefusalFacts.{its_number}
use Rattle.mm_kit.proofs.staging.stage_entry.Goals as goal

pub returns-in-Refused-clause-staged : goal.returns-in-Refused-clause-staged
returns-in-Refused-clause-staged g c clean p sound =
    let told = c.in-Refused.ensures.applied clean p sound.0 sound.1 in (
      (told.1, sound.1),
      inr (
        c.in-Ok.piece,
        c.in-Ok.ensures.fills,
        c.in-Refused.why,
        its_number _ _ told.0
            ∙ sym c.reason.ensures,
        told.0,
      ),
    )
