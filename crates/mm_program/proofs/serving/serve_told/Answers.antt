use Rattle.mm_program.specs.Served.{IsServing}
use Rattle.mm_program.proofs.Ended.{service_ends, service_tells}
use Rattle.mm_program.proofs.serving.serve_told.Goals as goal

pub work_and_tell-requires : goal.work_and_tell-requires
work_and_tell-requires g c =
    record { ends = λ old new done came. service_ends (IsServing c.args.port c.args.count) old new done came }

pub returns-clause-told : goal.returns-clause-told
returns-clause-told g c =
    service_tells (IsServing c.args.port c.args.count) _ _ _ _ _ _ _ _ _ c.work_and_tell.ensures.told
