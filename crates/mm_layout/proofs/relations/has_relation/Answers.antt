use Rattle.std.proofs.Common.{[], ◌∷◌, rules}
use Rattle.mm_store.proofs.Parts.{found}
use Rattle.mm_store.proofs.Keys as parts
use Rattle.sqlite.specs.declared.types.Value.TheVariants.{Text as Words}
use Rattle.mm_store.proofs.Selecting as statement
use Rattle.mm_store.proofs.Steps.{asks_any}
use Rattle.mm_layout.proofs.relations.has_relation.Goals as goal

pub returns : goal.returns
returns g c =
    asks_any statement.has_relation c.exists.ensures (Words c.args.mapping.now ∷ []) (search rules)
    (λ version p db h. found parts.relations (db 10) p.relations h.relations c.args.mapping.now)
