use Rattle.std.proofs.Common.{[], ◌∷◌, refl, rules}
use Rattle.sqlite.specs.declared.types.Value.TheVariants.{Int, Text as Words}
use Rattle.mm_store.proofs.Inserting as statement
use Rattle.mm_definitions.specs.Package.{MatrixSet}
use Rattle.mm_store.specs.Rows.{set_row}
use Rattle.mm_store.proofs.Parts.{puts}
use Rattle.mm_store.proofs.Keys as parts
use Rattle.mm_store.proofs.Puts.{put_sets}
use Rattle.mm_store.proofs.Steps.{inserts}
use Rattle.mm_layout.proofs.pyramids.insert_matrix_set.Goals as goal

pub returns : goal.returns
returns g c =
    let a = c.args in
    let value : MatrixSet = record { system = a.srs; box = a.extent.now } in
    let e = a.extent.now in
    let row = set_row a.table.now value in
    inserts c.run.ensures statement.insert_matrix_set
    (Words a.table.now ∷ Int a.srs ∷ Int e.min_x ∷ Int e.min_y ∷ Int e.max_x ∷ Int e.max_y ∷ []) (search rules) row refl
    refl
    (λ version db p h fresh free.
    put_sets version db p h _ _
    (puts parts.sets (db 4) p.sets h.sets a.table.now value _ free refl fresh))
