use Rattle.std.proofs.Common.{[], ◌∷◌, rules}
use Rattle.sqlite.specs.declared.types.Value.TheVariants.{Int, Text as Words}
use Rattle.mm_definitions.specs.Keys.{pairing}
use Rattle.mm_store.proofs.Deleting as statement
use Rattle.mm_store.proofs.Parts.{removes}
use Rattle.mm_store.proofs.Keys as parts
use Rattle.mm_store.proofs.Puts.{put_pairings}
use Rattle.mm_store.proofs.Steps.{deletes}
use Rattle.mm_relate.proofs.maps.delete_pairing.Goals as goal

pub returns : goal.returns
returns g c =
    let a = c.args in
    let key = pairing a.mapping.now a.base_id a.related_id in
    deletes c.run.ensures statement.delete_pairing (Words key.mapping ∷ Int key.base_id ∷ Int key.related_id ∷ [])
    (search rules)
    (λ version db p h any. put_pairings version db p h _ _ (removes parts.pairings (db 21) p.pairings h.pairings key))
