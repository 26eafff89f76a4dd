use Rattle.std.proofs.Common.{inl, inr, refl, rules}
use Rattle.mm_definitions.specs.Streams.{written}
use Rattle.mm_work.specs.declared.stop.Stop.TheVariants as stops
use Rattle.mm_program.specs.Desks.{IsSeated, table_of}
use Rattle.mm_program.proofs.Ended.{seats, service_ends, service_tells}
use Rattle.mm_program.proofs.desks.desk_told.Goals as goal

pub returns-in-Err-clause-told : goal.returns-in-Err-clause-told
returns-in-Err-clause-told g c =
    inr (
      c.is_named.ensures.named (search rules),
      inr (inr (
        stops.Fault c.in-Err.fault,
        written g.W.Write.contents c.args.output.now,
        inl (refl, refl),
        c.tell_stop.ensures.told,
      )),
    )

pub returns-in-Err-clause-sitting : goal.returns-in-Err-clause-sitting
returns-in-Err-clause-sitting g c =
    inr (inl (stops.Fault c.in-Err.fault, c.in-Err.ensures.fault, c.tell_stop.ensures.told, tt))

pub work_and_tell-requires : goal.work_and_tell-requires
work_and_tell-requires g c = record {
  ends = λ old new done came.
      service_ends (IsSeated c.args.port c.args.count c.as_str.result.now (table_of c.args.page)) old new done came;
}

pub returns-clause-told : goal.returns-clause-told
returns-clause-told g c = inr (
  c.is_named.ensures.named (search rules),
  seats c.args.port c.args.count c.as_str.result.now (table_of c.args.page) _ _ _ (search rules)
      (service_tells (IsSeated c.args.port c.args.count c.as_str.result.now (table_of c.args.page)) _ _ _ _ _ _ _ _ _
      c.work_and_tell.ensures.told),
)

pub returns-clause-sitting : goal.returns-clause-sitting
returns-clause-sitting g c =
    inr (inr (c.as_str.result.now, search rules, c.work_and_tell.ensures.told))
