use Rattle.std.proofs.Common.{rules, w64}
use Rattle.std.proofs.lemmas.Int.{to_z-of_z}
use mir.Val.{SFits}
use Rattle.mm_staging.proofs.staging.stage.Goals as goal

pub returns : goal.returns
returns g c =
    let fits : SFits w64 c.get.result = search rules in
    rw c.get.ensures.number at (simp to_z-of_z at (rw c.as_str.ensures.text at c.stage_at.ensures))
