use Rattle.std.proofs.Common.{pos, refl, rules}
use Rattle.mm_definitions.specs.Conditions.{grid}
use Rattle.mm_definitions.specs.Keys.{level}
use Rattle.mm_store.proofs.Inserting as statement
use Rattle.mm_store.specs.Rows.{grid_row}
use Rattle.mm_store.proofs.Parts.{puts}
use Rattle.mm_store.proofs.Keys as parts
use Rattle.mm_store.proofs.Puts.{put_matrices}
use Rattle.mm_store.proofs.Steps.{inserts}
use Rattle.mm_meta.proofs.matrices.insert_matrix.Goals as goal

pub returns : goal.returns
returns g c =
    let a = c.args in
    let key = level a.table.now (pos a.zoom) in
    let value = grid a.matrix.now in
    let row = grid_row key value in
    inserts c.run.ensures statement.insert_matrix row (search rules) row refl refl
    (λ version db p h fresh free.
    put_matrices version db p h _ _
    (puts parts.matrices (db 6) p.matrices h.matrices key value _ free refl fresh))
