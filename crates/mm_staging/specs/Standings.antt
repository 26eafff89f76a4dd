-- How an edition stands, as its row writes it.
use Rattle.mm_definitions.specs.Keys.{Text}
use Rattle.mm_definitions.specs.Package.{open_state, published_state}
use Rattle.mm_staging.specs.declared.editions.Standing.{Standing}
use Rattle.mm_staging.specs.declared.editions.Standing.TheVariants.{Open, Published}

-- the state that the edition's row holds
abbrev pub standing_text : Standing → Text
standing_text Open = open_state
standing_text Published = published_state
