use Rattle.std.proofs.Common.{◌∙◌, map, ap, refl}
use Rattle.mm_definitions.specs.Streams.{inside, written}
use Rattle.mm_reads.specs.RowLists.{numbered_told}
use Rattle.mm_reads.proofs.Leaving.{leaves_same, leaves_then}
use Rattle.mm_show.proofs.Turning.{on_first, on_then, print_stops, printed_all, printed_cut, printed_more, printed_none}
use Rattle.mm_show.proofs.Turning.{printed_so_far}
use Rattle.mm_show.proofs.showing.print_from.Goals as goal

pub loop-turn-init : goal.loop-turn-init
loop-turn-init g c = record {
  same = refl;
  kept = leaves_same (g.V.Viewer.store c.args.viewer.now);
  printed = λ p on lists first read. printed_none p c.args.table.now first
      (g.W.Write.contents (inside c.args.output.now))
      (map numbered_told c.args.first_of_all.items) read;
  working = refl;
  out = λ held. held;
}

pub loop-turn-preserved : goal.loop-turn-preserved
loop-turn-preserved g c = record {
  same = c.print_and_read.ensures.same ∙ c.loop-turn.invariant.same;
  kept = leaves_then _ _ _ c.loop-turn.invariant.kept c.print_and_read.ensures.kept;
  printed = λ p on lists first read.
      let it = c.loop-turn.invariant.printed p (on_first _ _ _ _ p c.print_and_read.ensures.kept on) lists first read in
      let turned = c.in_ok-more.ensures.turned p
      (on_then _ _ _ _ _ p c.loop-turn.invariant.same c.loop-turn.invariant.kept c.print_and_read.ensures.kept on)
      lists it.next (ap (map numbered_told) c.deref.ensures.value ∙ it.read) in
      printed_more p c.args.table.now first _ _ _ (map numbered_told c.loop-turn.rows.items) it
      (map numbered_told c.in-Some.more.items)
      (rw c.in-Some.is at turned);
  working = c.in_ok-more.ensures.working ∙ c.loop-turn.invariant.working;
  out = λ held. c.print_and_read.ensures.out (c.loop-turn.invariant.out held);
}

pub returns-in_err-more-clause-kept : goal.returns-in_err-more-clause-kept
returns-in_err-more-clause-kept g c = leaves_then _ _ _ c.loop-turn.invariant.kept c.print_and_read.ensures.kept

pub returns-in_err-more-clause-printed : goal.returns-in_err-more-clause-printed
returns-in_err-more-clause-printed g c p on lists first read =
    let it = c.loop-turn.invariant.printed p (on_first _ _ _ _ p c.print_and_read.ensures.kept on) lists first read in
    let turned = c.in_err-more.ensures.turned p
    (on_then _ _ _ _ _ p c.loop-turn.invariant.same c.loop-turn.invariant.kept c.print_and_read.ensures.kept on)
    lists it.next (ap (map numbered_told) c.deref.ensures.value ∙ it.read) in
    print_stops p c.args.table.now first (written g.W.Write.contents c.args.output.now)
    (written g.W.Write.contents c.print_and_read.new.output) c.from_residual.result c.from_residual.ensures.0
    (printed_cut p c.args.table.now first _ _ _ (map numbered_told c.loop-turn.rows.items) it turned)

pub returns-in-None-clause-kept : goal.returns-in-None-clause-kept
returns-in-None-clause-kept g c = leaves_then _ _ _ c.loop-turn.invariant.kept c.print_and_read.ensures.kept

pub returns-in-None-clause-printed : goal.returns-in-None-clause-printed
returns-in-None-clause-printed g c p on lists first read =
    let it = c.loop-turn.invariant.printed p (on_first _ _ _ _ p c.print_and_read.ensures.kept on) lists first read in
    let turned = c.in_ok-more.ensures.turned p
    (on_then _ _ _ _ _ p c.loop-turn.invariant.same c.loop-turn.invariant.kept c.print_and_read.ensures.kept on)
    lists it.next (ap (map numbered_told) c.deref.ensures.value ∙ it.read) in
    printed_all p c.args.table.now first _ _ _ (map numbered_told c.loop-turn.rows.items) it (rw c.in-None.is at turned)

pub returns-clause-printed : goal.returns-clause-printed
returns-clause-printed g c p on lists first read =
    printed_so_far p c.args.table.now first _ _ (map numbered_told c.loop-turn.rows.items)
    (c.loop-turn.invariant.printed p on lists first read)
