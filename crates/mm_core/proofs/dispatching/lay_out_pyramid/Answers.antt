use Rattle.std.proofs.Common.{rules, w64}
use Rattle.std.proofs.lemmas.Int.{to_z-of_z}
use mir.Val.{SFits}
use Rattle.mm_core.proofs.dispatching.lay_out_pyramid.Goals as goal

pub returns : goal.returns
returns g c =
    let srs_fits : SFits w64 c.get.result = search rules in
    let lent = simp to_z-of_z at (rw c.as_str.ensures.text at c.add_pyramid.ensures) in
    rw c.in-Pyramid.is (rw c.get.ensures.number at lent)
