use Rattle.std.proofs.Common.{◌∙◌, [], ◌∷◌, rules}
use Rattle.std.specs.FinMap.{get}
use Rattle.sqlite.specs.declared.types.Value.TheVariants.{Text as Words}
use Rattle.sqlite.specs.Term.{col}
use Rattle.sql_forms.proofs.Keys.{columns_are}
use Rattle.sql_forms.proofs.Selects.{shows}
use Rattle.mm_store.proofs.Selecting as statement
use Rattle.mm_store.specs.Rows.{kind_row}
use Rattle.mm_store.proofs.Lookups.{text_found, mapped_same}
use Rattle.mm_store.proofs.Keys as parts
use Rattle.mm_store.proofs.Steps.{asks_one}
use Rattle.mm_layout.proofs.Leaving.{asks_leaving}
use Rattle.mm_layout.proofs.kinds.registered.Goals as goal

pub returns-clause-told : goal.returns-clause-told
returns-clause-told g c =
    let table = c.args.table.now in
    asks_one statement.kind_of_table c.first_text.ensures (Words table ∷ []) (search rules)
    (λ version p db h x first gives finds.
    mapped_same (get p.kinds table) ∙ text_found parts.kinds (db 13) p.kinds h.kinds table
    (shows (col 1 2 ∷ []) (Words table ∷ [])) (λ kind. kind) (λ r v is. columns_are r (kind_row table v) 1 is) x first
    gives finds)

pub returns-clause-leaves : goal.returns-clause-leaves
returns-clause-leaves g c =
    asks_leaving statement.kind_of_table c.first_text.ensures (Words c.args.table.now ∷ []) (search rules)
