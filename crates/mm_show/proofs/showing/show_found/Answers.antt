use Rattle.std.proofs.Common.{◌∙◌, ℤ, pos, rules, w64, map, Option, ap, subst, sym}
use Rattle.std.specs.Prelude.{unwrap_or}
use Rattle.std.proofs.Math.Facts.{to_z-of_z}
use mir.Val.{SFits}
use Rattle.mm_definitions.specs.Streams.{written}
use Rattle.mm_reads.specs.RowLists.{first_rows, numbered_told}
use Rattle.mm_show.specs.Showing.{ShowsRecords}
use Rattle.mm_show.proofs.Shown.{all_cut, all_shown, one_shown}
use Rattle.mm_show.proofs.showing.show_found.Goals as goal

pub returns-in-Some-clause-shown : goal.returns-in-Some-clause-shown
returns-in-Some-clause-shown g c p on meets lists read =
    let table = c.args.table.now in
    let old = written g.W.Write.contents c.args.output.now in
    let new = written g.W.Write.contents c.show_first.new.output in
    let fits : SFits w64 c.in-Some.id = search rules in
    let shown = rw (to_z-of_z fits, c.deref.ensures.value) at c.show_first.ensures.shown in
    let here = read ∙ ap (λ (o : Option ℤ). first_rows p table (unwrap_or o (pos 1))) c.in-Some.is in
    subst (λ (o : Option ℤ). ShowsRecords p table o old new c.show_first.result) (sym c.in-Some.is)
    (one_shown p table lists c.in-Some.id (map numbered_told c.args.rows.items) here old new c.show_first.result shown)

pub returns-in_err-print_from-in-None-clause-shown : goal.returns-in_err-print_from-in-None-clause-shown
returns-in_err-print_from-in-None-clause-shown g c p on meets lists read =
    let table = c.args.table.now in
    let old = written g.W.Write.contents c.args.output.now in
    let new = written g.W.Write.contents c.print_from.new.output in
    let here = read ∙ ap (λ (o : Option ℤ). first_rows p table (unwrap_or o (pos 1))) c.in-None.is in
    subst (λ (o : Option ℤ). ShowsRecords p table o old new c.from_residual.result) (sym c.in-None.is)
    (all_cut p table lists meets old new c.in_err-print_from-in-None.field-0.0
    (c.in_err-print_from-in-None.ensures.printed p on lists (pos 1) here) c.from_residual.result
    c.from_residual.ensures.0)

pub returns-in_ok-print_from-in-None-clause-shown : goal.returns-in_ok-print_from-in-None-clause-shown
returns-in_ok-print_from-in-None-clause-shown g c p on meets lists read =
    let table = c.args.table.now in
    let old = written g.W.Write.contents c.args.output.now in
    let new = written g.W.Write.contents c.print_from.new.output in
    let here = read ∙ ap (λ (o : Option ℤ). first_rows p table (unwrap_or o (pos 1))) c.in-None.is in
    rw c.in-None.is (all_shown p table lists meets old new c.in_ok-print_from-in-None.field-0
    (c.in_ok-print_from-in-None.ensures.printed p on lists (pos 1) here))
