use Rattle.std.proofs.Common.{refl, rules}
use Rattle.mm_definitions.specs.Keys.{item}
use Rattle.mm_definitions.specs.Package.{AttributeRow}
use Rattle.mm_store.proofs.Inserting as statement
use Rattle.mm_store.specs.Rows.{attribute_row}
use Rattle.mm_store.proofs.Parts.{puts}
use Rattle.mm_store.proofs.Keys as parts
use Rattle.mm_store.proofs.Puts.{put_rows}
use Rattle.mm_store.proofs.Steps.{inserts}
use Rattle.mm_content.proofs.rows.insert_row.Goals as goal

pub returns : goal.returns
returns g c =
    let a = c.args in
    let key = item a.table.now a.id in
    let value : AttributeRow = record { title = a.title.now; note = a.note.now; amount = a.amount } in
    let row = attribute_row key value in
    inserts c.run.ensures statement.insert_row row (search rules) row refl refl
    (λ version db p h fresh free.
    put_rows version db p h _ _
    (puts parts.rows (db 17) p.rows h.rows key value _ free refl fresh))
