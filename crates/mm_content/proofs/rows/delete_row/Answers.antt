use Rattle.std.proofs.Common.{[], ◌∷◌, rules}
use Rattle.sqlite.specs.declared.types.Value.TheVariants.{Int, Text as Words}
use Rattle.mm_definitions.specs.Keys.{item}
use Rattle.mm_store.proofs.Deleting as statement
use Rattle.mm_store.proofs.Parts.{removes}
use Rattle.mm_store.proofs.Keys as parts
use Rattle.mm_store.proofs.Puts.{put_rows}
use Rattle.mm_store.proofs.Steps.{deletes}
use Rattle.mm_content.proofs.rows.delete_row.Goals as goal

pub returns : goal.returns
returns g c =
    let a = c.args in
    let key = item a.table.now a.id in
    deletes c.run.ensures statement.delete_row (Words key.table ∷ Int key.id ∷ []) (search rules)
    (λ version db p h any. put_rows version db p h _ _ (removes parts.rows (db 17) p.rows h.rows key))
