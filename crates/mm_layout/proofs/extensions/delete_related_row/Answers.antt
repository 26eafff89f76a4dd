use Rattle.std.proofs.Common.{[], ◌∷◌, rules}
use Rattle.sqlite.specs.declared.types.Value.TheVariants.{Text as Words}
use Rattle.sql_forms.specs.Tables.{passes}
use Rattle.mm_definitions.specs.Package.{mapping_extension}
use Rattle.mm_store.proofs.Deleting as statement
use Rattle.mm_store.proofs.Extensions.{related_terms, related_test, uncounts}
use Rattle.mm_store.proofs.Puts.{put_extensions}
use Rattle.mm_store.proofs.Steps.{deletes}
use Rattle.mm_layout.proofs.extensions.delete_related_row.Goals as goal

pub returns : goal.returns
returns g c =
    let mapping = c.args.mapping.now in
    let test = passes related_terms (Words mapping ∷ []) in
    deletes c.run.ensures statement.delete_related_row (Words mapping ∷ []) (search rules)
    (λ version db p h any.
    put_extensions version db p h _ _
    (uncounts (db 8) p.extensions h.extensions (mapping_extension mapping) test (related_test mapping)))
