use Rattle.std.proofs.lemmas.Result.{err_from_is_err_and}
use Rattle.sqlite.specs.Held.{state}
use Rattle.mm_check.specs.Form.{AreApart, AreNamed}
use Rattle.mm_check.proofs.Checks.{goes_on, stops, gives_up}
use Rattle.mm_check.proofs.form.apart_and_named.Goals as goal

pub returns-then-branch : goal.returns-then-branch
returns-then-branch g c =
    goes_on (state g.S.Store c.args.conn.now) (state g.S.Store c.blobs_are_apart.new.conn)
    (state g.S.Store c.blobs_are_named.new.conn) AreApart AreNamed (λ kept. AreApart kept × AreNamed kept)
    (λ kept. (λ h. h, λ h. h)) c.blobs_are_apart.result c.blobs_are_named.result c.in_ok-blobs_are_apart.was
    c.if-branch.true c.blobs_are_apart.ensures c.blobs_are_named.ensures

pub returns-else-branch : goal.returns-else-branch
returns-else-branch g c =
    stops (state g.S.Store c.args.conn.now) (state g.S.Store c.blobs_are_apart.new.conn) AreApart AreNamed
    (λ kept. AreApart kept × AreNamed kept) (λ kept. (λ h. h, λ h. h)) c.blobs_are_apart.result
    c.in_ok-blobs_are_apart.was c.if-branch.false c.blobs_are_apart.ensures

pub returns-in_err-blobs_are_apart : goal.returns-in_err-blobs_are_apart
returns-in_err-blobs_are_apart g c =
    let p = err_from_is_err_and c.from_residual.result c.from_residual.ensures.1 in
    rw (p.1, p.2) (gives_up (state g.S.Store c.args.conn.now) (state g.S.Store c.blobs_are_apart.new.conn) AreApart
    (λ kept. AreApart kept × AreNamed kept) c.blobs_are_apart.result c.in_err-blobs_are_apart.field-0.0
    c.in_err-blobs_are_apart.was c.blobs_are_apart.ensures)
