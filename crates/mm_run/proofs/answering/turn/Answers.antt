use Rattle.csv.specs.Records.{fields_of}
use Rattle.mm_run.specs.Sessions.{shown_since}
use Rattle.mm_run.proofs.Answered.{turned}
use Rattle.csv.specs.Reading.{reader_source}
use Rattle.mm_run.proofs.Ended.{ended_turn}
use Rattle.mm_run.proofs.Failing.{read-tells_reader, unread-tells_reader}
use Rattle.mm_run.proofs.Kept.{kept-sound}
use Rattle.mm_run.proofs.Since.{begins}
use Rattle.mm_run.proofs.answering.turn.Goals as goal

pub returns-in-Ok-None-clause-kept : goal.returns-in-Ok-None-clause-kept
returns-in-Ok-None-clause-kept g c clean p sound =
    let here = c.args.session.now in
    kept-sound (shown_since g.A.Apply here p here) (λ q settled. settled.1) (g.A.Apply.has_failed here) p
    (begins g.A.Apply here p sound)

pub returns-in-Err-clause-kept : goal.returns-in-Err-clause-kept
returns-in-Err-clause-kept g c clean p sound =
    let here = c.args.session.now in
    kept-sound (shown_since g.A.Apply here p here) (λ q settled. settled.1) (g.A.Apply.has_failed here) p
    (begins g.A.Apply here p sound)

pub returns-in-Ok-Some-clause-turns : goal.returns-in-Ok-Some-clause-turns
returns-in-Ok-Some-clause-turns g c clean p sound =
    let here = c.args.session.now in
    turned (fields_of c.in-Ok-Some.row) p c.args.at (g.A.Apply.has_failed here)
    (shown_since g.A.Apply here p c.answer_row.new.session)
    g.T.Read.remaining c.args.rows.now c.next_row.new.rows c.answer_row.result
    (rw c.in-Ok-Some.field-0-is at c.in-Ok-Some.ensures.reads)
    (c.answer_row.ensures.answered clean p sound (fields_of c.in-Ok-Some.row) c.read_row.ensures)

pub returns-in-Ok-Some-clause-kept : goal.returns-in-Ok-Some-clause-kept
returns-in-Ok-Some-clause-kept g c = c.answer_row.ensures.kept (fields_of c.in-Ok-Some.row) c.read_row.ensures

pub returns-in-Ok-Some-clause-ended : goal.returns-in-Ok-Some-clause-ended
returns-in-Ok-Some-clause-ended g c was =
    ended_turn g.T.Read.remaining c.args.rows.now c.next_row.new.rows (fields_of c.in-Ok-Some.row) c.read_row.result
    c.answer_row.result (rw c.in-Ok-Some.field-0-is at c.in-Ok-Some.ensures.reads) c.read_row.ensures
    (c.answer_row.ensures.ended was)

pub returns-in-Ok-Some-clause-reader : goal.returns-in-Ok-Some-clause-reader
returns-in-Ok-Some-clause-reader g c =
    read-tells_reader (g.T.Tells.has_failed (reader_source c.args.rows.now))
    (g.T.Tells.has_failed (reader_source c.next_row.new.rows)) c.answer_row.result c.in-Ok-Some.ensures.working

pub returns-in-Err-clause-reader : goal.returns-in-Err-clause-reader
returns-in-Err-clause-reader g c =
    unread-tells_reader (g.T.Tells.has_failed (reader_source c.args.rows.now))
    (g.T.Tells.has_failed (reader_source c.next_row.new.rows)) c.in-Err.fault.0 c.in-Err.ensures.number
