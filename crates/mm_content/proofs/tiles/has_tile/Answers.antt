use Rattle.std.proofs.Common.{[], ◌∷◌, ◌∙◌, rules}
use Rattle.sqlite.specs.declared.types.Value.TheVariants.{Int, Text as Words}
use Rattle.mm_store.proofs.Selecting as statement
use Rattle.mm_store.specs.Kept.{tile_id, tile_with}
use Rattle.mm_store.proofs.Parts.{found}
use Rattle.mm_store.proofs.Keys as parts
use Rattle.mm_store.proofs.Steps.{asks_any}
use Rattle.mm_blobs.proofs.Naming.{told_there}
use Rattle.mm_definitions.specs.Places.{tile_at}
use Rattle.mm_content.proofs.tiles.has_tile.Goals as goal

pub returns : goal.returns
returns g c =
    let key = tile_at c.args.table.now c.args.place in
    asks_any statement.has_tile c.exists.ensures (Words key.table ∷ Int key.zoom ∷ Int key.column ∷ Int key.row ∷ [])
    (search rules)
    (λ version p db h.
    found parts.tiles (db 15) h.kept.tiles h.keeps.tiles key
    ∙ told_there tile_id tile_with h.kept.shelf h.kept.tiles p.tiles h.keeps.tiles_told key)
