use Rattle.std.proofs.Common.{[], ◌∷◌, refl, rules}
use Rattle.sqlite.specs.declared.types.Value.TheVariants.{Text as Words}
use Rattle.mm_store.proofs.Inserting as statement
use Rattle.mm_store.specs.Rows.{kind_row}
use Rattle.mm_store.proofs.Parts.{puts}
use Rattle.mm_store.proofs.Keys as parts
use Rattle.mm_store.proofs.Puts.{put_kinds}
use Rattle.mm_store.proofs.Steps.{inserts}
use Rattle.mm_layout.proofs.kinds.insert_kind.Goals as goal

pub returns : goal.returns
returns g c =
    let a = c.args in
    let value = a.kind.now in
    let row = kind_row a.table.now value in
    inserts c.run.ensures statement.insert_kind (Words a.table.now ∷ Words a.kind.now ∷ []) (search rules) row refl refl
    (λ version db p h fresh free.
    put_kinds version db p h _ _
    (puts parts.kinds (db 13) p.kinds h.kinds a.table.now value _ free refl fresh))
