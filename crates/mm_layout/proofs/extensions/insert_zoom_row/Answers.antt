use Rattle.std.proofs.Common.{[], ◌∷◌, refl, rules}
use Rattle.sqlite.specs.declared.types.Value.TheVariants.{Text as Words}
use Rattle.sqlite.specs.Edit.{next_rowid}
use Rattle.mm_definitions.specs.Package.{zoom_extension}
use Rattle.mm_store.proofs.Inserting as statement
use Rattle.mm_store.specs.Rows.{extension_row}
use Rattle.mm_store.proofs.Extensions.{counts_more}
use Rattle.mm_store.proofs.Puts.{put_extensions}
use Rattle.mm_store.proofs.Steps.{inserts}
use Rattle.mm_layout.proofs.extensions.insert_zoom_row.Goals as goal

pub returns : goal.returns
returns g c =
    let z = zoom_extension c.args.table.now in
    let row = extension_row z in
    inserts c.run.ensures statement.insert_zoom_row (Words c.args.table.now ∷ []) (search rules) row refl refl
    (λ version db p h fresh free.
    put_extensions version db p h _ _ (counts_more (db 8) p.extensions h.extensions z free (next_rowid (db 8)) fresh))
