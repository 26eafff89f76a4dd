use Rattle.std.proofs.Common.{[], ◌∷◌, rules}
use Rattle.sqlite.specs.declared.types.Value.TheVariants.{Int, Text as Words}
use Rattle.mm_definitions.specs.Keys.{item}
use Rattle.mm_store.proofs.Selecting as statement
use Rattle.mm_store.proofs.Parts.{found}
use Rattle.mm_store.proofs.Keys as parts
use Rattle.mm_store.proofs.Steps.{asks_any}
use Rattle.mm_layout.proofs.items.has_row.Goals as goal

pub returns : goal.returns
returns g c =
    let key = item c.args.table.now c.args.id in
    asks_any statement.has_row c.exists.ensures (Words key.table ∷ Int key.id ∷ []) (search rules)
    (λ version p db h. found parts.rows (db 17) p.rows h.rows key)
