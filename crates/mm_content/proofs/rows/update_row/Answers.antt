use Rattle.std.proofs.Common.{rules}
use Rattle.std.specs.FinMap.{get}
use Rattle.sql_forms.proofs.Updates.{updated}
use Rattle.mm_store.specs.Tables.{mm_rows}
use Rattle.mm_definitions.specs.Keys.{item}
use Rattle.mm_definitions.specs.Package.{AttributeRow}
use Rattle.mm_definitions.proofs.Parts.{some_of}
use Rattle.mm_store.proofs.Updating as statement
use Rattle.mm_store.specs.Rows.{attribute_row}
use Rattle.mm_store.proofs.Changes.{row_sets, row_changed}
use Rattle.mm_store.proofs.Parts as part
use Rattle.mm_store.proofs.Keys as parts
use Rattle.mm_store.proofs.Puts.{put_rows}
use Rattle.mm_store.proofs.Steps.{updates}
use Rattle.mm_content.proofs.rows.update_row.Goals as goal

pub returns : goal.returns
returns g c =
    let a = c.args in
    let key = item a.table.now a.id in
    let value : AttributeRow = record { title = a.title.now; note = a.note.now; amount = a.amount } in
    let params = attribute_row key value in
    updates c.run.ensures statement.update_row params (search rules)
    (λ version db p h stands.
    let was = some_of (get p.rows key) stands in
    put_rows version db p h _ _
    (part.changes parts.rows (db 17) p.rows h.rows key (updated mm_rows row_sets params) was.0 value was.1
    (row_changed key was.0 value)))
