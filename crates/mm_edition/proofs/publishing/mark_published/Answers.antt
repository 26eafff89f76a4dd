use Rattle.std.proofs.Common.{[], ◌∷◌, rules}
use Rattle.std.specs.FinMap.{get}
use Rattle.sqlite.specs.declared.types.Value.TheVariants.{Text as Words}
use Rattle.sql_forms.proofs.Updates.{updated}
use Rattle.mm_store.specs.Tables.{mm_editions}
use Rattle.mm_definitions.specs.Package.{published_state}
use Rattle.mm_definitions.proofs.Parts.{some_of}
use Rattle.mm_store.proofs.Updating as statement
use Rattle.mm_store.proofs.Changes.{closed_sets, edition_closed}
use Rattle.mm_store.proofs.Parts as part
use Rattle.mm_store.proofs.Keys as parts
use Rattle.mm_store.proofs.Puts.{put_editions}
use Rattle.mm_store.proofs.Steps.{updates}
use Rattle.mm_edition.proofs.publishing.mark_published.Goals as goal

pub returns : goal.returns
returns g c =
    let key = c.args.edition.now in
    let params = Words key ∷ [] in
    updates c.run.ensures statement.close_edition params (search rules)
    (λ version db p h stands.
    let was = some_of (get p.editions key) stands in
    put_editions version db p h _ _
    (part.changes parts.editions (db 23) p.editions h.editions key
    (updated mm_editions closed_sets params) was.0 published_state was.1 (edition_closed key was.0)))
