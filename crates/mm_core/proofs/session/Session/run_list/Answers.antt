use Rattle.sqlite.specs.Held.{state}
use Rattle.sqlite.specs.State.{HasCleanDisk}
use Rattle.mm_definitions.specs.Streams.{inside, written}
use Rattle.mm_run.proofs.Since.{settled_runs}
use Rattle.mm_core.specs.Parts.{connection}
use Rattle.mm_core.proofs.Applies.{session, session_settled}
use Rattle.mm_core.proofs.session.Session.run_list.Goals as goal

pub returns-clause-settled : goal.returns-clause-settled
returns-clause-settled g c =
    let new = c.run_list.new.session in
    settled_runs (session g.S.Store) (session_settled g.S.Store) c.args.at
    (HasCleanDisk (state g.S.Store (connection new))) c.args.self.now new
    (g.R.Read.remaining (inside c.args.reader.now)) (written g.W.Write.contents c.args.writer.now)
    (written g.W.Write.contents c.run_list.new.writer)
    c.run_list.result c.run_list.ensures.seen
