use Rattle.std.proofs.lemmas.Result.{err_from_is_err_and}
use Rattle.sqlite.specs.Held.{state}
use Rattle.mm_definitions.specs.Streams.{has_failed, inside}
use Rattle.mm_reads.specs.Listing.{table_lines, editions}
use Rattle.mm_reads.proofs.Written.{listed_then, listed_failed}
use Rattle.mm_reads.proofs.listing.list.Goals as goal

pub returns-clause-listed : goal.returns-clause-listed
returns-clause-listed g c profile =
    listed_then profile table_lines editions (state g.S.Store c.args.conn.now) (state g.S.Store c.list_tables.new.conn)
    (state g.S.Store c.list_editions.new.conn) (g.W.Write.contents (inside c.args.output.now))
    (g.W.Write.contents (inside c.list_tables.new.output)) (g.W.Write.contents (inside c.list_editions.new.output))
    (has_failed c.args.output.now) (has_failed c.list_tables.new.output) (has_failed c.list_editions.new.output)
    _ c.list_editions.result (c.in_ok-list_tables.ensures.listed profile) (c.list_editions.ensures.listed profile)

pub returns-in_err-list_tables-clause-listed : goal.returns-in_err-list_tables-clause-listed
returns-in_err-list_tables-clause-listed g c profile =
    let p = err_from_is_err_and c.from_residual.result c.from_residual.ensures.1 in
    rw (p.1, p.2) (listed_failed profile table_lines editions (state g.S.Store c.args.conn.now)
    (state g.S.Store c.list_tables.new.conn) (g.W.Write.contents (inside c.args.output.now))
    (g.W.Write.contents (inside c.list_tables.new.output)) (has_failed c.args.output.now)
    (has_failed c.list_tables.new.output) c.in_err-list_tables.field-0.0 (c.in_err-list_tables.ensures.listed profile))
