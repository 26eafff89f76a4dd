use Rattle.std.proofs.lemmas.Result.{err_from_is_err_and}
use Rattle.sqlite.specs.Held.{state}
use Rattle.mm_check.specs.Form.{AreDigested, AreApart, AreNamed, AreInForm}
use Rattle.mm_check.proofs.Checks.{longest_stands, longest_fails, longest_cut, longest_none, longest_unknown}
use Rattle.mm_check.proofs.Rules.{in_form}
use Rattle.mm_check.proofs.Reading.{decided}
use Rattle.mm_check.proofs.form.blobs_stand.Goals as goal

pub returns-in_default-clause-form : goal.returns-in_default-clause-form
returns-in_default-clause-form g c =
    longest_none (state g.S.Store c.args.conn.now) (state g.S.Store c.blobs_are_digested.new.conn) AreDigested
    (λ kept. AreApart kept × AreNamed kept) AreInForm in_form (rw c.in_default.is at c.in_ok-longest.ensures)

pub returns-in_err-longest-clause-form : goal.returns-in_err-longest-clause-form
returns-in_err-longest-clause-form g c =
    let p = err_from_is_err_and c.from_residual.result c.from_residual.ensures.1 in
    rw (p.1, p.2) (longest_unknown (state g.S.Store c.args.conn.now)
    (state g.S.Store c.blobs_are_digested.new.conn) AreDigested (λ kept. AreApart kept × AreNamed kept) AreInForm
    in_form c.in_err-longest.field-0.0 c.in_err-longest.ensures)

pub returns-in_err-apart_and_named-clause-form : goal.returns-in_err-apart_and_named-clause-form
returns-in_err-apart_and_named-clause-form g c =
    let p = err_from_is_err_and c.from_residual-in_err-apart_and_named.result
    c.from_residual-in_err-apart_and_named.ensures.1 in
    rw (p.1, p.2) (longest_cut (state g.S.Store c.args.conn.now) (state g.S.Store c.blobs_are_digested.new.conn)
    (state g.S.Store c.apart_and_named.new.conn) AreDigested (λ kept. AreApart kept × AreNamed kept) AreInForm in_form
    c.in-Some.longest (rw c.in-Some.is at c.in_ok-longest.ensures) c.in_err-apart_and_named.field-0.0
    c.in_err-apart_and_named.ensures)

pub returns-then-branch-clause-form : goal.returns-then-branch-clause-form
returns-then-branch-clause-form g c =
    longest_stands (state g.S.Store c.args.conn.now) (state g.S.Store c.blobs_are_digested.new.conn)
    (state g.S.Store c.apart_and_named.new.conn) AreDigested (λ kept. AreApart kept × AreNamed kept) AreInForm in_form
    c.in-Some.longest (rw c.in-Some.is at c.in_ok-longest.ensures) c.if-branch.true c.in_ok-apart_and_named.ensures

pub returns-else-branch-clause-form : goal.returns-else-branch-clause-form
returns-else-branch-clause-form g c =
    longest_fails (state g.S.Store c.args.conn.now) (state g.S.Store c.blobs_are_digested.new.conn)
    (state g.S.Store c.apart_and_named.new.conn) AreDigested (λ kept. AreApart kept × AreNamed kept) AreInForm in_form
    c.in-Some.longest (rw c.in-Some.is at c.in_ok-longest.ensures) c.if-branch.false c.in_ok-apart_and_named.ensures

pub returns-in_default-clause-decides : goal.returns-in_default-clause-decides
returns-in_default-clause-decides g c = decided _ _ _ (returns-in_default-clause-form g c).form

pub returns-in_err-longest-clause-decides : goal.returns-in_err-longest-clause-decides
returns-in_err-longest-clause-decides g c = decided _ _ _ (returns-in_err-longest-clause-form g c).form

pub returns-in_err-apart_and_named-clause-decides : goal.returns-in_err-apart_and_named-clause-decides
returns-in_err-apart_and_named-clause-decides g c =
    decided _ _ _ (returns-in_err-apart_and_named-clause-form g c).form

pub returns-then-branch-clause-decides : goal.returns-then-branch-clause-decides
returns-then-branch-clause-decides g c = decided _ _ _ (returns-then-branch-clause-form g c).form

pub returns-else-branch-clause-decides : goal.returns-else-branch-clause-decides
returns-else-branch-clause-decides g c = decided _ _ _ (returns-else-branch-clause-form g c).form
