use Rattle.std.proofs.Common.{[], ◌∷◌, rules}
use Rattle.sqlite.specs.declared.types.Value.TheVariants.{Int, Text as Words}
use Rattle.sqlite.specs.Term.{col}
use Rattle.sql_forms.proofs.Selects.{shows}
use Rattle.mm_definitions.specs.Keys.{item}
use Rattle.mm_store.proofs.Selecting as statement
use Rattle.mm_store.proofs.Keys as parts
use Rattle.mm_store.proofs.Steps.{asks_one}
use Rattle.mm_reads.specs.Told.{ShowsRow, shown_row}
use Rattle.mm_reads.proofs.Found.{entry_found, row_told}
use Rattle.mm_reads.proofs.rows.row_at.Goals as goal

pub returns : goal.returns
returns g c =
    let key = item c.args.table.now c.args.id in
    let params = Words key.table ∷ Int key.id ∷ [] in
    asks_one statement.row_values c.first_row.ensures params (search rules)
    (λ version p db h x first gives finds.
    entry_found parts.rows (db 17) p.rows h.rows key
    (shows (col 1 3 ∷ col 1 4 ∷ col 1 5 ∷ []) params) ShowsRow shown_row (row_told key params) x first gives finds)
