use Rattle.std.proofs.Common.{subst}
use Rattle.std.proofs.lemmas.Result.{err_from_is_err_and}
use Rattle.sqlite.specs.Held.{state}
use Rattle.mm_definitions.specs.Streams.{has_failed, inside, written}
use Rattle.mm_reads.specs.Listing.{editions}
use Rattle.mm_reads.specs.Writing.{IsListed}
use Rattle.mm_reads.proofs.Walks.{editions_listed}
use Rattle.mm_io.specs.Sending.{IsOut}
use Rattle.mm_reads.proofs.Written.{done_of, kept, still}
use Rattle.mm_reads.proofs.listing.show_editions.Goals as goal

pub returns-clause-same_reference : goal.returns-clause-same_reference
returns-clause-same_reference g c = kept c.walk.ensures (λ v. v.output.ghost_name) (λ v u row result h. h.0)

pub returns-clause-listed : goal.returns-clause-listed
returns-clause-listed g c profile =
    subst (λ r. IsListed profile editions (state g.S.Store c.args.conn.now) (state g.S.Store c.walk.new.conn)
    (written g.W.Write.contents c.args.lines.now.output.now) (written g.W.Write.contents c.walk.new.visitor.output.now)
    (done_of r)) c.in_ok-walk.was
    (editions_listed _ (λ v. g.W.Write.contents (inside v.output.now)) (λ v. has_failed v.output.now)
    (λ v u row result h. h.1) (state g.S.Store c.args.conn.now) (state g.S.Store c.walk.new.conn) c.args.lines.now
    c.walk.new.visitor profile c.walk.result c.walk.ensures)

pub returns-in_err-walk-clause-same_reference : goal.returns-in_err-walk-clause-same_reference
returns-in_err-walk-clause-same_reference g c = kept c.walk.ensures (λ v. v.output.ghost_name) (λ v u row result h. h.0)

pub returns-in_err-walk-clause-listed : goal.returns-in_err-walk-clause-listed
returns-in_err-walk-clause-listed g c profile =
    let p = err_from_is_err_and c.from_residual.result c.from_residual.ensures.1 in
    rw (p.1, p.2) (subst (λ r. IsListed profile editions (state g.S.Store c.args.conn.now)
    (state g.S.Store c.walk.new.conn) (written g.W.Write.contents c.args.lines.now.output.now)
    (written g.W.Write.contents c.walk.new.visitor.output.now) (done_of r)) c.in_err-walk.was
    (editions_listed _ (λ v. g.W.Write.contents (inside v.output.now)) (λ v. has_failed v.output.now)
    (λ v u row result h. h.1) (state g.S.Store c.args.conn.now) (state g.S.Store c.walk.new.conn) c.args.lines.now
    c.walk.new.visitor profile c.walk.result c.walk.ensures))

pub returns-clause-out : goal.returns-clause-out
returns-clause-out g c = still c.walk.ensures (λ v. IsOut v.output.now) (λ v u row result h. h.2)

pub returns-in_err-walk-clause-out : goal.returns-in_err-walk-clause-out
returns-in_err-walk-clause-out g c = still c.walk.ensures (λ v. IsOut v.output.now) (λ v u row result h. h.2)
