use Rattle.std.proofs.Common.{Ok, Option, ℕ, subst}
use Rattle.mm_definitions.specs.Streams.{written}
use Rattle.mm_show.specs.Showing.{ShowsRecords}
use Rattle.mm_work.proofs.Showing.{told_begun, told_reason, told_records}
use Rattle.mm_work.proofs.shown.rows_told.Goals as goal

pub returns-in_err-reason-clause-told : goal.returns-in_err-reason-clause-told
returns-in_err-reason-clause-told g c p on =
    told_begun p c.args.table.now c.args.id (written g.W.Write.contents c.args.output.now)
    (written g.W.Write.contents c.show_rows.new.output) c.in_err-reason.field-0.0
    c.from_residual.result c.from_residual.ensures.0 (c.in_err-reason.ensures.shown p on)

pub returns-in-Some-clause-told : goal.returns-in-Some-clause-told
returns-in-Some-clause-told g c p on =
    let old = written g.W.Write.contents c.args.output.now in
    let mid = written g.W.Write.contents c.show_rows.new.output in
    told_reason p c.args.table.now c.args.id old mid (written g.W.Write.contents c.tell_reason.new.output)
    c.in-Some.reason c.tell_reason.result
    (subst (λ (o : Option ℕ). ShowsRecords p c.args.table.now c.args.id old mid (Ok o)) c.in-Some.is
    (c.in_ok-reason.ensures.shown p on)) c.tell_reason.ensures.told

pub returns-in-None-clause-told : goal.returns-in-None-clause-told
returns-in-None-clause-told g c p on =
    let old = written g.W.Write.contents c.args.output.now in
    let new = written g.W.Write.contents c.show_rows.new.output in
    told_records p c.args.table.now c.args.id old new
    (subst (λ (o : Option ℕ). ShowsRecords p c.args.table.now c.args.id old new (Ok o)) c.in-None.is
    (c.in_ok-reason.ensures.shown p on))
