use Rattle.std.proofs.Common.{[], ◌∷◌, refl, rules}
use Rattle.sqlite.specs.declared.types.Value.TheVariants.{Text as Words}
use Rattle.mm_definitions.specs.Package.{open_state}
use Rattle.mm_store.proofs.Inserting as statement
use Rattle.mm_store.specs.Rows.{edition_row}
use Rattle.mm_store.proofs.Parts.{puts}
use Rattle.mm_store.proofs.Keys as parts
use Rattle.mm_store.proofs.Puts.{put_editions}
use Rattle.mm_store.proofs.Steps.{inserts}
use Rattle.mm_staging.proofs.editions.insert_edition.Goals as goal

pub returns : goal.returns
returns g c =
    let a = c.args in
    let row = edition_row a.edition.now open_state in
    inserts c.run.ensures statement.insert_edition (Words a.edition.now ∷ []) (search rules) row refl refl
    (λ version db p h fresh free.
    put_editions version db p h _ _
    (puts parts.editions (db 23) p.editions h.editions a.edition.now open_state _ free refl fresh))
