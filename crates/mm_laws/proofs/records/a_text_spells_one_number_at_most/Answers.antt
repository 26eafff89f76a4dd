use Rattle.mm_definitions.proofs.ReadingFacts.{spells_one}
use Rattle.mm_laws.proofs.records.a_text_spells_one_number_at_most.Goals as goal

pub returns : goal.returns
returns c = spells_one
