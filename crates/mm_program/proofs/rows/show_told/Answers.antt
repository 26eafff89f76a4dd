use Rattle.std.proofs.Common.{rules, inr}
use Rattle.mm_definitions.specs.Bounds.{IsName}
use Rattle.mm_program.proofs.Ended.{showing_ends}
use Rattle.mm_program.proofs.rows.show_told.Goals as goal

pub returns-clause-shown : goal.returns-clause-shown
returns-clause-shown g c =
    let named : IsName c.args.table.now = search rules in
    inr (named, rw (← c.in-Some.ensures.value) c.work_and_tell.ensures.told)

pub work_and_tell-requires : goal.work_and_tell-requires
work_and_tell-requires g c = record { ends = λ old new done came. showing_ends old new done came }
