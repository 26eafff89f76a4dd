use Rattle.std.proofs.Common.{[], ◌∷◌, rules}
use Rattle.mm_store.proofs.Entries.{uses}
use Rattle.sqlite.specs.declared.types.Value.TheVariants.{Text as Words}
use Rattle.mm_store.proofs.Selecting as statement
use Rattle.mm_store.proofs.Steps.{asks_any}
use Rattle.mm_layout.proofs.relations.uses_table.Goals as goal

pub returns : goal.returns
returns g c =
    asks_any statement.uses_table c.exists.ensures (Words c.args.table.now ∷ []) (search rules)
    (λ version p db h. uses p c.args.table.now (db 10) h.relations)
