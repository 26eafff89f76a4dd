use Rattle.std.proofs.Common.{rules}
use Rattle.sqlite.specs.Held.{state}
use Rattle.mm_definitions.specs.Streams.{written}
use Rattle.mm_reads.specs.Listing.{table_lines}
use Rattle.mm_io.specs.Sending.{IsOut}
use Rattle.mm_reads.specs.Writing.{IsListed}
use Rattle.mm_reads.proofs.listing.list_tables.Goals as goal

pub returns-clause-listed : goal.returns-clause-listed
returns-clause-listed g c profile =
    let end = c.show_tables-shown.new.lines.output.now in
    let it : IsListed profile table_lines (state g.S.Store c.args.conn.now)
    (state g.S.Store c.show_tables-shown.new.conn) (written g.W.Write.contents c.args.output.now)
    (written g.W.Write.contents end) c.show_tables-shown.result =
    c.show_tables-shown.ensures.listed profile in
    search rules

pub returns-clause-out : goal.returns-clause-out
returns-clause-out g c =
    let it : IsOut c.args.output.now → IsOut c.show_tables-shown.new.lines.output.now =
    c.show_tables-shown.ensures.out in search rules
