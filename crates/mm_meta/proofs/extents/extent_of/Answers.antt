use Rattle.std.proofs.Common.{[], ◌∷◌, rules}
use Rattle.sqlite.specs.declared.types.Value.TheVariants.{Text as Words}
use Rattle.mm_store.proofs.Selecting as statement
use Rattle.mm_store.proofs.Steps.{asks_one}
use Rattle.mm_meta.proofs.Covering.{extent_found}
use Rattle.mm_meta.proofs.extents.extent_of.Goals as goal

pub returns : goal.returns
returns g c =
    let table = c.args.table.now in
    asks_one statement.extent_of_table c.first_extent.ensures (Words table ∷ []) (search rules)
    (λ version p db h x first gives finds. extent_found (db 4) p.sets h.sets table x first gives finds)
