-- The parts of rule 15, each decided by a walk.
use Rattle.std.specs.Prelude.{◌≡◌, ◌⊎◌, pos, ◌-ℤ◌}
use Rattle.mm_definitions.specs.Parts.{Each, Has, Stands}
use Rattle.mm_definitions.specs.Package.{Package, open_state, published_state}
use Rattle.mm_definitions.specs.Rules.{IsSpelled}
use Rattle.mm_definitions.specs.Bounds.{Profile, IsFrom, MostPieces}
use Rattle.mm_definitions.specs.Keys.{piece}

-- each edition is open or published
abbrev pub EditionStates : Package → Type 0
EditionStates p = Each p.editions (λ _ state. (state ≡ open_state) ⊎ (state ≡ published_state))

-- each piece belongs to an edition that is open
abbrev pub PiecesOfOpen : Package → Type 0
PiecesOfOpen p = Each p.pieces (λ k _. Has p.editions k.edition open_state)

-- each row spells a piece that the profile takes, within its limits
abbrev pub PiecesSpelled : Profile → Package → Type 0
PiecesSpelled profile p = Each p.pieces (λ _ r. IsSpelled profile r)

-- each is the first or follows another
abbrev pub PiecesNumbered : Package → Type 0
PiecesNumbered p = Each p.pieces (λ k _. IsFrom (pos 1) (pos MostPieces) k.number
    × ((k.number ≡ pos 1) ⊎ Stands p.pieces (piece k.edition (k.number -ℤ pos 1))))
