use Rattle.std.proofs.Common.{◌≤◌, to_z, w64, ◌∙◌}
use Rattle.jiff.proofs.SpanFacts.{date_add-days, can_add-days}
use Rattle.mm_definitions.proofs.Dates.{start_is, cast_is, day_in, day_is}
use Rattle.mm_definitions.proofs.moments.date_of.Goals as goal

pub unwrap-requires : goal.unwrap-requires
unwrap-requires c =
    let day : c.args.day ≤ 2932896 = c.requires in
    c.checked_add.ensures.succeeds.1 ((can_add-days c.date.result (to_z w64 c.args.day) c.days.result c.days.ensures).1
    (day_in _ (to_z w64 c.args.day) c.args.day (start_is c.date.result c.date.ensures) (cast_is c.args.day day) day))

pub returns : goal.returns
returns c =
    let day : c.args.day ≤ 2932896 = c.requires in
    let after = rw c.unwrap.ensures at c.checked_add.ensures.value in
    day_is _ (to_z w64 c.args.day) _ c.args.day (after ∙ date_add-days c.date.result (to_z w64 c.args.day)
    c.days.result c.days.ensures) (start_is c.date.result c.date.ensures) (cast_is c.args.day day)
