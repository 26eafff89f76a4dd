use Rattle.mm_run.proofs.Reports.{lists}
use Rattle.mm_run.proofs.run.run_list.Goals as goal

pub returns : goal.returns
returns g c =
    lists g.A.Apply g.R.Read g.W.Write c.args.at c.args.session.now c.run_to_end.new.session c.args.reader.now
    c.run_to_end.new.reader c.args.writer.now c.run_to_end.new.writer c.run_to_end.result
    c.run_to_end.ensures.runs c.run_to_end.ensures.end
