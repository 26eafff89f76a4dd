use Rattle.std.proofs.Common.{◌≡◌, ◌∙◌, refl, rules, subst}
use Rattle.mm_definitions.specs.Streams.{has_failed, inside, written}
use Rattle.mm_desk.specs.Demand.{End, Refuse}
use Rattle.mm_desk.specs.Answered.{page_of}
use Rattle.mm_desk.specs.Responses.{refusal_of}
use Rattle.mm_desk.specs.Sent.{IsCut}
use Rattle.mm_desk.proofs.Answering.{ended_cut, path_answered, reads_on, records_answered, refused_cut, stays_same}
use Rattle.mm_desk.proofs.Answering.{waits_cut}
use Rattle.mm_desk.proofs.desk.answer_demand.Goals as goal

pub returns-in-Show-clause-answered : goal.returns-in-Show-clause-answered
returns-in-Show-clause-answered g c =
    rw c.in-Show.is (path_answered (page_of c.args.gate) c.in-Show.path.now c.args.here.now g.D.Viewer g.D.Apply
    c.args.at
    (g.R.Read.remaining (inside c.args.reader.now)) (has_failed c.args.reader.now) c.args.desk.now
    c.answer_path.new.desk
    (written g.W.Write.contents c.args.writer.now) (written g.W.Write.contents c.answer_path.new.writer)
    c.answer_path.result c.answer_path.ensures.answered)

pub returns-in-Ok-clause-answered : goal.returns-in-Ok-clause-answered
returns-in-Ok-clause-answered g c =
    let on = rw c.in-Ok.is at c.let_go_on.ensures in
    rw c.in-Records.is (records_answered (page_of c.args.gate) c.in-Records.length c.in-Records.waits c.args.here.now
    g.D.Viewer g.D.Apply c.args.at
    (g.R.Read.remaining (inside c.args.reader.now)) (has_failed c.run_records.new.reader) c.args.desk.now
    c.run_records.new.desk
    (written g.W.Write.contents c.args.writer.now) (written g.W.Write.contents c.let_go_on.new.writer)
    (written g.W.Write.contents c.run_records.new.writer)
    c.run_records.result on c.run_records.ensures.run)

pub returns-in-Ok-clause-frugal : goal.returns-in-Ok-clause-frugal
returns-in-Ok-clause-frugal g c =
    rw c.in-Records.is (reads_on c.in-Records.length c.in-Records.waits c.args.here.now
    (g.R.Read.remaining (inside c.args.reader.now))
    (g.R.Read.remaining (inside c.run_records.new.reader)) c.run_records.ensures.frugal)

pub returns-in-Err-clause-answered : goal.returns-in-Err-clause-answered
returns-in-Err-clause-answered g c =
    let cut = rw c.in-Err.is at c.let_go_on.ensures in
    rw c.in-Records.is (waits_cut (page_of c.args.gate) c.in-Records.length c.in-Records.waits c.args.here.now
    g.D.Viewer g.D.Apply c.args.at
    (g.R.Read.remaining (inside c.args.reader.now)) (has_failed c.args.reader.now) c.args.desk.now c.args.desk.now
    (written g.W.Write.contents c.args.writer.now) (written g.W.Write.contents c.let_go_on.new.writer) c.in-Err.fault
    (stays_same g.D.Apply c.args.desk.now) cut)

pub returns-in-Err-sent-clause-answered : goal.returns-in-Err-sent-clause-answered
returns-in-Err-sent-clause-answered g c =
    let cut = rw c.in-Err-sent.is at c.sent.ensures.told in
    rw c.in-End.is (ended_cut (page_of c.args.gate) End c.args.here.now g.D.Viewer g.D.Apply c.args.at
    (g.R.Read.remaining (inside c.args.reader.now)) (has_failed c.args.reader.now) c.args.desk.now
    (written g.W.Write.contents c.args.writer.now) (written g.W.Write.contents c.sent.new.writer) c.in-Err-sent.fault
    refl cut)

pub returns-in-Err-sent-2-clause-answered : goal.returns-in-Err-sent-2-clause-answered
returns-in-Err-sent-2-clause-answered g c =
    let old = written g.W.Write.contents c.args.writer.now in
    let new = written g.W.Write.contents c.sent-in-Refused.new.writer in
    let bytes : c.as_bytes.result.now ≡ refusal_of c.in-Refused.status =
    (let e : c.as_bytes.result.now ≡ c.refusal.result.now = search rules in e ∙ c.refusal.ensures) in
    let cut = subst (λ t. IsCut old new t c.in-Err-sent-2.fault.0) bytes
    (rw c.in-Err-sent-2.is at c.sent-in-Refused.ensures.told) in
    rw c.in-Refused.is (refused_cut (page_of c.args.gate) (Refuse c.in-Refused.status) c.args.here.now g.D.Viewer
    g.D.Apply c.args.at
    (g.R.Read.remaining (inside c.args.reader.now)) (has_failed c.args.reader.now) c.args.desk.now old new
    c.in-Refused.status c.in-Err-sent-2.fault refl cut)
