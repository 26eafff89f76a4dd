use Rattle.std.proofs.Common.{[], ◌∷◌, rules}
use Rattle.sqlite.specs.declared.types.Value.TheVariants.{Int}
use Rattle.mm_store.proofs.Selecting as statement
use Rattle.mm_store.proofs.Parts.{found}
use Rattle.mm_store.proofs.Keys as parts
use Rattle.mm_store.proofs.Steps.{asks_any}
use Rattle.mm_store.proofs.systems.has_system.Goals as goal

pub returns : goal.returns
returns g c = asks_any statement.has_system c.exists.ensures (Int c.args.id ∷ []) (search rules)
    (λ version p db h. found parts.systems (db 0) p.systems h.systems c.args.id)
