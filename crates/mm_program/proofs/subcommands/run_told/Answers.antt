use Rattle.std.proofs.Common.{Err, inl, inr, refl}
use Rattle.std.specs.Prelude.{⊤, unwrap_or}
use Rattle.mm_definitions.specs.Streams.{written}
use Rattle.mm_work.specs.declared.stop.Stop.TheVariants as stops
use Rattle.mm_program.proofs.Ended.{service_ends}
use Rattle.mm_program.proofs.Told.{any_given, at_given}
use Rattle.mm_program.proofs.subcommands.run_told.Goals as goal

pub returns-in-Unread-clause-ran : goal.returns-in-Unread-clause-ran
returns-in-Unread-clause-ran g c = inr (
  unwrap_or c.args.at 0,
  any_given c.args.at,
  (
    written g.W.Write.contents c.args.output.now,
    Err (stops.Fault (record { 0 = 96 })),
    (stops.Fault (record { 0 = 96 }), refl, inr (inr refl), inl refl),
    (inl refl, c.tell_stop.ensures.told),
    refl,
    (stops.Fault (record { 0 = 96 }), refl, inr (inr refl)),
  ),
)

pub returns-clause-ran : goal.returns-clause-ran
returns-clause-ran g c = inr (
  c.in-At.moment,
  at_given _ _ _ c.moment_or_now.ensures.given c.in-At.is,
  c.work_and_tell.ensures.told,
)

pub work_and_tell-requires : goal.work_and_tell-requires
work_and_tell-requires g c =
    record { ends = λ old new done came. service_ends (λ old new status. ⊤) old new done came }
