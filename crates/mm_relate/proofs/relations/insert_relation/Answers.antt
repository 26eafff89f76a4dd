use Rattle.std.proofs.Common.{[], ◌∷◌, refl, rules}
use Rattle.sqlite.specs.declared.types.Value.TheVariants.{Null, Text as Words}
use Rattle.mm_store.proofs.Inserting as statement
use Rattle.mm_store.specs.Rows.{relation_row}
use Rattle.mm_store.proofs.Parts.{puts}
use Rattle.mm_store.proofs.Keys as parts
use Rattle.mm_store.proofs.Puts.{put_relations}
use Rattle.mm_store.proofs.Steps.{inserts}
use Rattle.mm_relate.specs.Relations.{new_relation}
use Rattle.mm_relate.proofs.relations.insert_relation.Goals as goal

pub returns : goal.returns
returns g c =
    let a = c.args in
    let value = new_relation a.base.now a.related.now a.name.now in
    let row = Null ∷ relation_row a.mapping.now value in
    let params = Words a.base.now ∷ Words a.related.now ∷ Words a.name.now ∷ Words a.mapping.now ∷ [] in
    inserts c.run.ensures statement.insert_relation params (search rules) row refl refl
    (λ version db p h fresh free.
    put_relations version db p h _ _
    (puts parts.relations (db 10) p.relations h.relations a.mapping.now value _ free refl fresh))
