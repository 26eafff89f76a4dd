use Rattle.std.proofs.Common.{[], ◌∷◌, ◌∙◌, rules}
use Rattle.sqlite.specs.declared.types.Value.TheVariants.{Int, Text as Words}
use Rattle.mm_definitions.specs.Keys.{piece}
use Rattle.mm_staging.proofs.Selecting as statement
use Rattle.mm_store.specs.Kept.{piece_id, piece_with}
use Rattle.mm_store.proofs.Parts.{found}
use Rattle.mm_store.proofs.Keys as parts
use Rattle.mm_store.proofs.Steps.{asks_any}
use Rattle.mm_blobs.proofs.Naming.{told_there}
use Rattle.mm_staging.proofs.pieces.has_piece.Goals as goal

pub returns : goal.returns
returns g c =
    let key = piece c.args.edition.now c.args.number in
    asks_any statement.has_piece c.exists.ensures (Words key.edition ∷ Int key.number ∷ []) (search rules)
    (λ version p db h.
    found parts.pieces (db 25) h.kept.pieces h.keeps.pieces key
    ∙ told_there piece_id piece_with h.kept.shelf h.kept.pieces p.pieces h.keeps.pieces_told key)
