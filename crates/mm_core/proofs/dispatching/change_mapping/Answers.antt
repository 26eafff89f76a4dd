use Rattle.std.proofs.Common.{rules, w64}
use Rattle.std.proofs.lemmas.Int.{to_z-of_z}
use mir.Val.{SFits}
use Rattle.mm_core.proofs.dispatching.change_mapping.Goals as goal

pub returns-in-Map : goal.returns-in-Map
returns-in-Map g c =
    let base_fits : SFits w64 c.get.result = search rules in
    let related_fits : SFits w64 c.get-in-Map.result = search rules in
    let lent = simp to_z-of_z at c.add_map.ensures in
    rw c.in-Map.is (rw (c.get.ensures.number, c.get-in-Map.ensures.number) at lent)

pub returns-in-MapDrop : goal.returns-in-MapDrop
returns-in-MapDrop g c =
    let base_fits : SFits w64 c.get-in-MapDrop.result = search rules in
    let related_fits : SFits w64 c.get-in-MapDrop-2.result = search rules in
    let lent = simp to_z-of_z at c.drop_map.ensures in
    rw c.in-MapDrop.is (rw (c.get-in-MapDrop.ensures.number, c.get-in-MapDrop-2.ensures.number) at lent)
