use Rattle.std.proofs.Common.{[], ◌∷◌, pos, sym, rules}
use Rattle.sqlite.specs.declared.types.Value.TheVariants.{Int, Text as Words}
use Rattle.sql_forms.proofs.Keys.{columns_are}
use Rattle.mm_definitions.specs.Keys.{level}
use Rattle.mm_store.proofs.Selecting as statement
use Rattle.mm_store.specs.Rows.{grid_row}
use Rattle.mm_store.proofs.Keys as parts
use Rattle.mm_store.proofs.Lookups.{pair_found}
use Rattle.mm_store.proofs.Steps.{asks_one}
use Rattle.mm_layout.proofs.Leaving.{asks_leaving}
use Rattle.mm_content.proofs.Refusing.{sides}
use Rattle.mm_content.proofs.tiles.sides_at.Goals as goal

pub returns-clause-told : goal.returns-clause-told
returns-clause-told g c =
    let key = level c.args.table.now (pos c.args.zoom) in
    asks_one statement.matrix_sides c.first_pair.ensures (Words key.table ∷ Int key.zoom ∷ []) (search rules)
    (λ version p db h x first gives finds.
    sym (pair_found parts.matrices (db 6) p.matrices h.matrices key _ sides
    (λ r v is. (columns_are r (grid_row key v) 2 is, columns_are r (grid_row key v) 3 is)) x first gives finds))

pub returns-clause-leaves : goal.returns-clause-leaves
returns-clause-leaves g c =
    asks_leaving statement.matrix_sides c.first_pair.ensures
    (Words c.args.table.now ∷ Int (pos c.args.zoom) ∷ []) (search rules)
