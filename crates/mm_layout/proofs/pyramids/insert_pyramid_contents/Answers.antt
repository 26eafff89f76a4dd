use Rattle.std.proofs.Common.{[], ◌∷◌, refl, rules}
use Rattle.sqlite.specs.declared.types.Value.TheVariants.{Int, Text as Words}
use Rattle.mm_store.proofs.Inserting as statement
use Rattle.mm_store.specs.Rows.{contents_row}
use Rattle.mm_layout.specs.Rows.{pyramid_contents}
use Rattle.mm_store.proofs.Parts.{puts}
use Rattle.mm_store.proofs.Keys as parts
use Rattle.mm_store.proofs.Puts.{put_contents}
use Rattle.mm_store.proofs.Steps.{inserts}
use Rattle.mm_layout.proofs.pyramids.insert_pyramid_contents.Goals as goal

pub returns : goal.returns
returns g c =
    let a = c.args in
    let value = pyramid_contents a.identifier.now a.last_change.now a.srs a.extent.now in
    let e = a.extent.now in
    let row = contents_row a.table.now value in
    inserts c.run.ensures statement.insert_pyramid_contents
    (Words a.table.now ∷ Words a.identifier.now ∷ Words a.last_change.now ∷ Int e.min_x
    ∷ Int e.min_y ∷ Int e.max_x ∷ Int e.max_y ∷ Int a.srs ∷ []) (search rules) row refl refl
    (λ version db p h fresh free.
    put_contents version db p h _ _
    (puts parts.contents (db 1) p.contents h.contents a.table.now value _ free refl fresh))
