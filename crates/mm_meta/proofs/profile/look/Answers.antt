use Rattle.std.proofs.Common.{subst}
use Rattle.sqlite.specs.Held.{state}
use Rattle.mm_meta.specs.Look.{Judges}
use Rattle.mm_meta.proofs.Looking.{judged, refused}
use Rattle.mm_meta.proofs.profile.look.Goals as goal

pub returns-in-Ok-clause-looked : goal.returns-in-Ok-clause-looked
returns-in-Ok-clause-looked g c =
    judged (state g.S.Store c.args.conn.now) (state g.S.Store c.query_all.new.self) c.query_all.ensures.survives
    c.judge.result c.in-Ok.rows.items c.in-Ok.ensures.ok
    (subst (λ rows. Judges rows c.judge.result) c.as_slice.ensures.value c.judge.ensures)

pub returns-in-Err-clause-looked : goal.returns-in-Err-clause-looked
returns-in-Err-clause-looked g c =
    refused (state g.S.Store c.args.conn.now) (state g.S.Store c.query_all.new.self) c.query_all.ensures.survives
    c.refusal_of.result c.in-Err.error c.in-Err.ensures.err c.refusal_of.ensures
