use Rattle.std.proofs.Common.{[], ◌∷◌, rules}
use Rattle.mm_store.proofs.Parts.{found}
use Rattle.mm_store.proofs.Keys as parts
use Rattle.sqlite.specs.declared.types.Value.TheVariants.{Text as Words}
use Rattle.mm_store.proofs.Selecting as statement
use Rattle.mm_store.proofs.Steps.{asks_any}
use Rattle.mm_layout.proofs.contents.has_table.Goals as goal

pub returns : goal.returns
returns g c =
    asks_any statement.has_table c.exists.ensures (Words c.args.table.now ∷ []) (search rules)
    (λ version p db h. found parts.contents (db 1) p.contents h.contents c.args.table.now)
