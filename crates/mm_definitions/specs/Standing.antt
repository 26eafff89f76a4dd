-- How an edition stands, as a read of it tells.
use Rattle.std.specs.Prelude.{◌≡◌, Option, Some, None}
use Rattle.std.specs.FinMap.{get}
use Rattle.mm_definitions.specs.Conditions.{piece_count}
use Rattle.mm_definitions.specs.Keys.{Text}
use Rattle.mm_definitions.specs.Package.{Package, open_state, published_state}
use Rattle.mm_definitions.specs.declared.entries.EditionState.{EditionState}
use Rattle.mm_definitions.specs.declared.entries.EditionState.TheVariants.{Open, Published}

-- no edition has the name, or it is published, or it is open with so many pieces
abbrev pub TellsState : Package → Text → Option EditionState → Type 0
TellsState p edition None = get p.editions edition ≡ None
TellsState p edition (Some Published) = get p.editions edition ≡ Some published_state
TellsState p edition (Some (Open count)) = (get p.editions edition ≡ Some open_state) × (piece_count p edition ≡ count)
