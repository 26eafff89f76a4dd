use Rattle.std.proofs.Common.{◌≡◌, ◌-◌, ◌∙◌, arith, inl, inr, refl, rules, subst, sym, take, drop, length}
use Rattle.std.proofs.lemmas.List.{length-drop, take_all}
use Rattle.std.specs.Io.KnownBytes.{Consumes}
use Rattle.mm_definitions.specs.Streams.{has_failed, inside, written}
use Rattle.mm_desk.specs.Demand.{demanded}
use Rattle.mm_page.specs.Heads.{IsNeeded, MostHeadBytes}
use Rattle.mm_page.proofs.ServeFacts.{err_so, ok_so}
use Rattle.mm_desk.specs.Answered.{Demands, IsHeadless, page_of}
use Rattle.mm_desk.specs.Responses.{refusal_of}
use Rattle.mm_desk.specs.Sent.{IsCut}
use Rattle.mm_desk.proofs.Answering.{Lifts, answered_up, cut_short, head_lifts, reads_head, reads_to, some_weaker}
use Rattle.mm_desk.proofs.Answering.{stays_same}
use Rattle.mm_desk.proofs.desk.desk_one.Goals as goal

pub returns-in-Ok-Some-clause-answered : goal.returns-in-Ok-Some-clause-answered
returns-in-Ok-Some-clause-answered g c =
    let old = g.R.Read.remaining (inside c.args.reader.now) in
    let mid = g.R.Read.remaining (inside c.read_head.new.reader) in
    let spans = c.in-Ok-Some.spans in
    let front = take c.in-Ok-Some.n c.read_head.new.buf in
    let here = take (length front - spans.len) (drop spans.len front) in
    let all : here ≡ drop spans.len front = take_all (length front - spans.len) (drop spans.len front)
    (omega (arith, length-drop spans.len front)) in
    let d = demanded c.taken_for-taken.result in
    let held : Consumes old mid front
    × IsNeeded MostHeadBytes front = rw c.in-Ok-Some.field-0-is at c.in-Ok-Some.ensures.holds in
    let lifts = some_weaker old _ (Lifts c.args.gate d here front)
    (λ input it. subst (λ l. Lifts c.args.gate d l front input) (sym all)
    (head_lifts c.args.gate d front c.read_head.new.headers spans c.taken_for-taken.ensures input it.2 it.3
    it.4)) (rw c.in-Ok-Some.field-0-is at c.in-Ok-Some.ensures.head) in
    answered_up c.args.gate d here front old mid held.0 lifts (page_of c.args.gate) g.D.Viewer g.D.Apply c.args.at
    (has_failed c.answer_demand.new.reader)
    c.args.desk.now c.answer_demand.new.desk (written g.W.Write.contents c.args.writer.now)
    (written g.W.Write.contents c.answer_demand.new.writer)
    c.answer_demand.result c.answer_demand.ensures.answered

pub returns-in-Ok-Some-clause-frugal : goal.returns-in-Ok-Some-clause-frugal
returns-in-Ok-Some-clause-frugal g c =
    let old = g.R.Read.remaining (inside c.args.reader.now) in
    let mid = g.R.Read.remaining (inside c.read_head.new.reader) in
    let spans = c.in-Ok-Some.spans in
    let front = take c.in-Ok-Some.n c.read_head.new.buf in
    let here = take (length front - spans.len) (drop spans.len front) in
    let all : here ≡ drop spans.len front = take_all (length front - spans.len) (drop spans.len front)
    (omega (arith, length-drop spans.len front)) in
    let d = demanded c.taken_for-taken.result in
    let held : Consumes old mid front
    × IsNeeded MostHeadBytes front = rw c.in-Ok-Some.field-0-is at c.in-Ok-Some.ensures.holds in
    let lifts = some_weaker old _ (Lifts c.args.gate d here front)
    (λ input it. subst (λ l. Lifts c.args.gate d l front input) (sym all)
    (head_lifts c.args.gate d front c.read_head.new.headers spans c.taken_for-taken.ensures input it.2 it.3
    it.4)) (rw c.in-Ok-Some.field-0-is at c.in-Ok-Some.ensures.head) in
    ok_so c.answer_demand.result (reads_to c.args.gate d here front old mid held.0 lifts
    (g.R.Read.remaining (inside c.answer_demand.new.reader)) held.1 c.answer_demand.ensures.frugal)

pub returns-in-Ok-Some-clause-frugal_fault : goal.returns-in-Ok-Some-clause-frugal_fault
returns-in-Ok-Some-clause-frugal_fault g c =
    let old = g.R.Read.remaining (inside c.args.reader.now) in
    let mid = g.R.Read.remaining (inside c.read_head.new.reader) in
    let spans = c.in-Ok-Some.spans in
    let front = take c.in-Ok-Some.n c.read_head.new.buf in
    let here = take (length front - spans.len) (drop spans.len front) in
    let all : here ≡ drop spans.len front = take_all (length front - spans.len) (drop spans.len front)
    (omega (arith, length-drop spans.len front)) in
    let d = demanded c.taken_for-taken.result in
    let held : Consumes old mid front
    × IsNeeded MostHeadBytes front = rw c.in-Ok-Some.field-0-is at c.in-Ok-Some.ensures.holds in
    let lifts = some_weaker old _ (Lifts c.args.gate d here front)
    (λ input it. subst (λ l. Lifts c.args.gate d l front input) (sym all)
    (head_lifts c.args.gate d front c.read_head.new.headers spans c.taken_for-taken.ensures input it.2 it.3
    it.4)) (rw c.in-Ok-Some.field-0-is at c.in-Ok-Some.ensures.head) in
    err_so _ c.answer_demand.result
    (λ e. inr (reads_to c.args.gate d here front old mid held.0 lifts
    (g.R.Read.remaining (inside c.answer_demand.new.reader)) held.1 c.answer_demand.ensures.frugal))

pub returns-in-Err-sent-clause-answered : goal.returns-in-Err-sent-clause-answered
returns-in-Err-sent-clause-answered g c =
    let source = g.R.Read.remaining (inside c.args.reader.now) in
    let old = written g.W.Write.contents c.args.writer.now in
    let new = written g.W.Write.contents c.sent.new.writer in
    let bytes : c.as_bytes.result.now ≡ refusal_of 400 =
    (let e : c.as_bytes.result.now ≡ c.refusal.result.now = search rules in e ∙ c.refusal.ensures) in
    let cut = subst (λ t. IsCut old new t c.in-Err-sent.fault.0) bytes (rw c.in-Err-sent.is at c.sent.ensures.told) in
    cut_short (page_of c.args.gate) (Demands c.args.gate) IsHeadless g.D.Viewer g.D.Apply c.args.at source
    (has_failed c.read_head.new.reader) c.args.desk.now c.args.desk.now old new
    (refusal_of 400) c.in-Err-sent.fault (stays_same g.D.Apply c.args.desk.now) cut
    (λ p on. some_weaker source _ _ (λ input none. inl (inr (none, refl)))
    (rw c.in-Ok-None.field-0-is at c.in-Ok-None.ensures.head))

pub returns-in-Err-sent-clause-frugal_fault : goal.returns-in-Err-sent-clause-frugal_fault
returns-in-Err-sent-clause-frugal_fault g c =
    inr (reads_head c.args.gate (g.R.Read.remaining (inside c.args.reader.now))
    (g.R.Read.remaining (inside c.read_head.new.reader)) c.in-Ok-None.ensures.frugal)
