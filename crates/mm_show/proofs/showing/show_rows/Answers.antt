use Rattle.std.proofs.Common.{◌≡◌, ◌∙◌, inl, inr, rules, w64, Ok, Err, ap, sym}
use Rattle.std.proofs.Math.Facts.{to_z-of_z}
use mir.Val.{SFits}
use Rattle.std.proofs.lemmas.Bool.{cases_Bool}
use Rattle.std.proofs.lemmas.Result.{IfOk-weaker}
use Rattle.mm_definitions.specs.Streams.{written}
use Rattle.mm_reads.specs.RowLists.{first_rows, lists_rows}
use Rattle.mm_reads.proofs.Leaving.{leaves_then}
use Rattle.mm_show.specs.Showing.{ShowsRecords}
use Rattle.mm_show.proofs.Shown.{none_shown, told_none, told_some}
use Rattle.mm_show.proofs.Turning.{on_first, on_then}
use Rattle.mm_show.proofs.showing.show_rows.Goals as goal

pub returns-in-Some-clause-kept : goal.returns-in-Some-clause-kept
returns-in-Some-clause-kept g c = leaves_then _ _ _ c.rows.ensures.kept c.show_found.ensures.kept

pub returns-in-None-clause-kept : goal.returns-in-None-clause-kept
returns-in-None-clause-kept g c = leaves_then _ _ _ c.rows.ensures.kept c.reason_of.ensures.kept

pub returns-in-Some-clause-shown : goal.returns-in-Some-clause-shown
returns-in-Some-clause-shown g c p on =
    let fits : SFits w64 c.unwrap_or.result = search rules in
    elim (cases_Bool (g.V.Viewer.has_failed c.args.viewer.now)) as
    (λ _. ShowsRecords p c.args.table.now c.args.id (written g.W.Write.contents c.args.output.now)
    (written g.W.Write.contents c.show_found.new.output) c.show_found.result) [
      | inl failed ↦ absurd (let f : Ok c.in_ok-rows.field-0 ≡ Err (record { 0 = 92 }) = sym c.in_ok-rows.was
          ∙ c.rows.ensures.ended failed in cc)
      | inr works ↦
          let value = c.in_ok-rows.ensures.value p (on_first _ _ _ _ p c.show_found.ensures.kept on) in
          let told = told_some (lists_rows p c.args.table.now) _ _ (rw c.in-Some.is at value) in
          let read = told.1 ∙ ap (first_rows p c.args.table.now) (to_z-of_z fits ∙ c.unwrap_or.ensures) in
          c.show_found.ensures.shown p (on_then _ _ _ _ _ p c.rows.ensures.same c.rows.ensures.kept
          c.show_found.ensures.kept on) (on works).1 told.0 read
    ]

pub returns-in-None-clause-shown : goal.returns-in-None-clause-shown
returns-in-None-clause-shown g c p on =
    let value = c.in_ok-rows.ensures.value p (on_first _ _ _ _ p c.reason_of.ensures.kept on) in
    let off = told_none (lists_rows p c.args.table.now) _ (rw c.in-None.is at value) in
    none_shown p c.args.table.now c.args.id (written g.W.Write.contents c.args.output.now) off c.reason_of.result
    (IfOk-weaker c.reason_of.result _ _
    (λ why h. h p (on_then _ _ _ _ _ p c.rows.ensures.same c.rows.ensures.kept c.reason_of.ensures.kept on))
    c.reason_of.ensures.why)
