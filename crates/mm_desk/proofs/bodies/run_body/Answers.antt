use Rattle.std.proofs.Common.{Some, ap, subst}
use Rattle.mm_definitions.specs.Streams.{written}
use Rattle.mm_run.specs.Promised.{KeepsRun}
use Rattle.mm_run.specs.Sessions.{shown_since}
use Rattle.mm_desk.proofs.bodies.run_body.Goals as goal

pub returns-clause-ran : goal.returns-clause-ran
returns-clause-ran g c =
    let it = c.run_list.ensures in
    let sent = rw c.in-Ok.is at c.sent.ensures.told in
    let A = g.A.Apply in
    let old = c.args.session.now in
    let new = c.run_list.new.session in
    let between = written g.W.Write.contents c.sent.new.writer in
    let after = written g.W.Write.contents c.run_list.new.writer in (
      between,
      sent,
      record {
        clean = it.clean;
        seen = subst
            (λ told. KeepsRun c.args.at (A.is_clean new) (A.seen old) told (A.has_failed old)
            (λ p. shown_since A old p new) between after c.run_list.result)
            (ap (λ r. Some r.now) c.new-records.ensures.inside) it.seen;
        told = it.told;
        session = it.session;
        writer = it.writer;
      },
    )
