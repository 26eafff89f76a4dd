use Rattle.std.proofs.Common.{refl, rules}
use Rattle.mm_definitions.specs.Keys.{pairing}
use Rattle.mm_store.proofs.Inserting as statement
use Rattle.mm_store.specs.Rows.{pairing_row}
use Rattle.mm_store.proofs.Parts.{puts}
use Rattle.mm_store.proofs.Keys as parts
use Rattle.mm_store.proofs.Puts.{put_pairings}
use Rattle.mm_store.proofs.Steps.{inserts}
use Rattle.mm_relate.proofs.maps.insert_pairing.Goals as goal

pub returns : goal.returns
returns g c =
    let a = c.args in
    let key = pairing a.mapping.now a.base_id a.related_id in
    let row = pairing_row key tt in
    inserts c.run.ensures statement.insert_pairing row (search rules) row refl refl
    (λ version db p h fresh free.
    put_pairings version db p h _ _
    (puts parts.pairings (db 21) p.pairings h.pairings key tt _ free refl fresh))
