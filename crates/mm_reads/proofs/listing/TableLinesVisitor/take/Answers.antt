use Rattle.std.proofs.Common.{refl}
use Rattle.mm_definitions.specs.Streams.{written}
use Rattle.mm_reads.specs.ShownLines.{ShowsTable}
use Rattle.mm_reads.proofs.Written.{line_taken}
use Rattle.mm_reads.proofs.listing.TableLinesVisitor.take.Goals as goal

pub returns : goal.returns
returns g c = (
  refl,
  line_taken ShowsTable (written g.W.Write.contents c.args.self.now.output.now)
      (written g.W.Write.contents c.send_line.new.output) c.args.row.now c.in_ok-line.line.items c.send_line.result
      c.in_ok-line.ensures.shown (rw c.as_slice.ensures.value at c.send_line.ensures.sent),
  λ held. c.send_line.ensures.out,
)
