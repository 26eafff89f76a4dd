use Rattle.std.proofs.Common.{[], ◌∷◌, pos, rules}
use Rattle.sqlite.specs.declared.types.Value.TheVariants.{Int, Text as Words}
use Rattle.mm_definitions.specs.Keys.{level}
use Rattle.mm_store.proofs.Selecting as statement
use Rattle.mm_store.proofs.Parts.{found}
use Rattle.mm_store.proofs.Keys as parts
use Rattle.mm_store.proofs.Steps.{asks_any}
use Rattle.mm_meta.proofs.matrices.has_matrix.Goals as goal

pub returns : goal.returns
returns g c =
    let key = level c.args.table.now (pos c.args.zoom) in
    asks_any statement.has_matrix c.exists.ensures (Words key.table ∷ Int key.zoom ∷ []) (search rules)
    (λ version p db h. found parts.matrices (db 6) p.matrices h.matrices key)
