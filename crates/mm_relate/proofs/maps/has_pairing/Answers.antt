use Rattle.std.proofs.Common.{[], ◌∷◌, rules}
use Rattle.sqlite.specs.declared.types.Value.TheVariants.{Int, Text as Words}
use Rattle.mm_definitions.specs.Keys.{pairing}
use Rattle.mm_store.proofs.Selecting as statement
use Rattle.mm_store.proofs.Parts.{found}
use Rattle.mm_store.proofs.Keys as parts
use Rattle.mm_store.proofs.Steps.{asks_any}
use Rattle.mm_relate.proofs.maps.has_pairing.Goals as goal

pub returns : goal.returns
returns g c =
    let key = pairing c.args.mapping.now c.args.base_id c.args.related_id in
    asks_any statement.has_pairing c.exists.ensures (Words key.mapping ∷ Int key.base_id ∷ Int key.related_id ∷ [])
    (search rules)
    (λ version p db h. found parts.pairings (db 21) p.pairings h.pairings key)
