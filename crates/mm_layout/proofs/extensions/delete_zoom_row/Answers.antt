use Rattle.std.proofs.Common.{[], ◌∷◌, rules}
use Rattle.sqlite.specs.declared.types.Value.TheVariants.{Text as Words}
use Rattle.sql_forms.specs.Tables.{passes}
use Rattle.mm_definitions.specs.Package.{zoom_extension}
use Rattle.mm_store.proofs.Deleting as statement
use Rattle.mm_store.proofs.Extensions.{zoom_terms, zoom_test, uncounts}
use Rattle.mm_store.proofs.Puts.{put_extensions}
use Rattle.mm_store.proofs.Steps.{deletes}
use Rattle.mm_layout.proofs.extensions.delete_zoom_row.Goals as goal

pub returns : goal.returns
returns g c =
    let table = c.args.table.now in
    let test = passes zoom_terms (Words table ∷ []) in
    deletes c.run.ensures statement.delete_zoom_row (Words table ∷ []) (search rules)
    (λ version db p h any.
    put_extensions version db p h _ _
    (uncounts (db 8) p.extensions h.extensions (zoom_extension table) test (zoom_test table)))
