use Rattle.std.proofs.Common.{[], ◌∷◌, ◌∙◌, rules}
use Rattle.sqlite.specs.declared.types.Value.TheVariants.{Int, Text as Words}
use Rattle.mm_definitions.specs.Keys.{item}
use Rattle.mm_store.proofs.Selecting as statement
use Rattle.mm_store.specs.Kept.{medium_id, medium_with}
use Rattle.mm_store.proofs.Parts.{found}
use Rattle.mm_blobs.proofs.Naming.{told_there}
use Rattle.mm_store.proofs.Keys as parts
use Rattle.mm_store.proofs.Steps.{asks_any}
use Rattle.mm_layout.proofs.items.has_medium.Goals as goal

pub returns : goal.returns
returns g c =
    let key = item c.args.table.now c.args.id in
    asks_any statement.has_medium c.exists.ensures (Words key.table ∷ Int key.id ∷ []) (search rules)
    (λ version p db h.
    found parts.media (db 19) h.kept.media h.keeps.media key
    ∙ told_there medium_id medium_with h.kept.shelf h.kept.media p.media h.keeps.media_told key)
