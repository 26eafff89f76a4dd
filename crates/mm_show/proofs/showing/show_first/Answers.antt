use Rattle.std.proofs.Common.{◌<◌, ◌∙◌, Err, ap, length, map, rules, subst, sym}
use Rattle.std.specs.Io.KnownBytes.{Appends}
use Rattle.std.proofs.Math.Facts.{to_z-of_z}
use Rattle.std.proofs.lemmas.Result.{err_from_is_err_and}
use Rattle.mm_definitions.specs.Streams.{inside, written}
use Rattle.mm_reads.specs.RowLists.{numbered_told}
use Rattle.mm_reads.specs.Writing.{IsBegun}
use Rattle.mm_show.specs.Records.{row_records}
use Rattle.mm_show.proofs.Turning.{first_same, first_stops}
use Rattle.mm_show.proofs.showing.show_first.Goals as goal

pub returns-in_err-print_rows-clause-shown : goal.returns-in_err-print_rows-clause-shown
returns-in_err-print_rows-clause-shown g c =
    let rows = c.args.rows.now in
    let some : 0 < length rows = search rules in
    let on = sym (rw (to_z-of_z c.ranges.id) at c.if-not-has_id.ensures) in
    let same = first_same c.args.id rows c.index-rows-0.result some c.index-rows-0.is on in
    let p = err_from_is_err_and c.from_residual.result c.from_residual.ensures.1 in
    let cut = c.in_err-print_rows.ensures.printed in
    first_stops c.args.table.now c.args.id (map numbered_told rows) (written g.W.Write.contents c.args.output.now)
    (written g.W.Write.contents c.print_rows.new.output)
    c.from_residual.result c.in_err-print_rows.field-0.0 (p.1 ∙ ap Err p.2) (numbered_told c.index-rows-0.result) same.0
    (subst (λ l. IsBegun (g.W.Write.contents (inside c.args.output.now))
    (g.W.Write.contents (inside c.print_rows.new.output))
    (row_records c.args.table.now l)) (same.1 ∙ sym same.0) cut.0) cut.1

pub returns-clause-shown : goal.returns-clause-shown
returns-clause-shown g c =
    let rows = c.args.rows.now in
    let some : 0 < length rows = search rules in
    let on = sym (rw (to_z-of_z c.ranges.id) at c.if-not-has_id.ensures) in
    let same = first_same c.args.id rows c.index-rows-0.result some c.index-rows-0.is on in
    let whole = c.in_ok-print_rows.ensures.printed in (
      numbered_told c.index-rows-0.result,
      same.0,
      subst
          (λ l. Appends (g.W.Write.contents (inside c.args.output.now))
          (g.W.Write.contents (inside c.print_rows.new.output))
          (row_records c.args.table.now l)) (same.1 ∙ sym same.0) whole.0,
      whole.1,
    )
