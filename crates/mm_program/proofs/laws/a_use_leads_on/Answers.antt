use Rattle.std.proofs.Common.{inl, inr}
use Rattle.mm_program.proofs.Uses.{led_by, nothing_left}
use Rattle.mm_program.proofs.laws.a_use_leads_on.Goals as goal

pub returns : goal.returns
returns g c image next source words old new result (inl (request, ask, told)) may =
    (request, ask, led_by g.D.Disk source image next old new result c.args._left.now may request told)
returns g c image next source words old new result (inr (error, kind, is, nothing)) may =
    absurd (nothing_left g.D.Disk next c.args._left.now nothing may)
