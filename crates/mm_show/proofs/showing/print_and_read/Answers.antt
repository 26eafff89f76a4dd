use Rattle.std.proofs.Common.{rules, w64, ℤ, None, Ok, Option, Some, map, subst}
use Rattle.std.proofs.Math.Facts.{to_z-of_z}
use mir.Val.{SFits}
use Rattle.std.specs.Io.KnownBytes.{Appends}
use Rattle.mm_definitions.specs.Streams.{written}
use Rattle.mm_reads.specs.RowLists.{numbered_told}
use Rattle.mm_show.specs.Turns.{TellsNext}
use Rattle.mm_show.proofs.Turning.{begun_by, begun_in, rows_begin, rows_end, turn_stops, turned}
use Rattle.mm_show.proofs.showing.print_and_read.Goals as goal

pub returns-in_err-print_rows-clause-turned : goal.returns-in_err-print_rows-clause-turned
returns-in_err-print_rows-clause-turned g c p on lists first read =
    turn_stops p c.args.table.now first (written g.W.Write.contents c.args.output.now)
    (written g.W.Write.contents c.print_rows.new.output) c.from_residual.result c.from_residual.ensures.0
    (begun_in _ _ _ _ _ (rows_begin p _ first _ read) c.in_err-print_rows.ensures.printed.0)

pub returns-in_err-first-clause-turned : goal.returns-in_err-first-clause-turned
returns-in_err-first-clause-turned g c p on lists first read =
    turn_stops p c.args.table.now first (written g.W.Write.contents c.args.output.now)
    (written g.W.Write.contents c.print_rows.new.output) c.from_residual-in_err-first.result
    c.from_residual-in_err-first.ensures.0
    (begun_by _ _ _ _ _ (rows_begin p _ first _ read) c.in_ok-print_rows.ensures.printed.0)

pub returns-in-Some-clause-turned : goal.returns-in-Some-clause-turned
returns-in-Some-clause-turned g c p on lists first read =
    let fits : SFits w64 c.in-Some.first = search rules in
    let next : TellsNext (map numbered_told c.args.rows.now) (Ok (Some c.in-Some.first)) = subst
    (λ (o : Option ℤ). TellsNext (map numbered_told c.args.rows.now) (Ok o)) c.in-Some.is c.in_ok-first.ensures in
    turned p c.args.table.now first (map numbered_told c.args.rows.now) read
    (written g.W.Write.contents c.args.output.now)
    (written g.W.Write.contents c.print_rows.new.output)
    c.in_ok-print_rows.ensures.printed.0 c.in-Some.first next lists c.rows.result
    (rw (to_z-of_z fits) at (c.rows.ensures.value p on))

pub returns-in-None-clause-turned : goal.returns-in-None-clause-turned
returns-in-None-clause-turned g c p on lists first read =
    let few : TellsNext (map numbered_told c.args.rows.now) (Ok None) = subst
    (λ (o : Option ℤ). TellsNext (map numbered_told c.args.rows.now) (Ok o)) c.in-None.is c.in_ok-first.ensures in
    subst (Appends _ _) (rows_end p c.args.table.now first (map numbered_told c.args.rows.now) read few)
    c.in_ok-print_rows.ensures.printed.0
