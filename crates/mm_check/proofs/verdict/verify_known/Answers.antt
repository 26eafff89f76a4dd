use Rattle.std.proofs.Common.{◌≡◌, ◌≤◌, Ok, Err, refl, arith}
use Rattle.std.proofs.lemmas.Result.{err_from_is_err_and}
use Rattle.sqlite.specs.Held.{state}
use Rattle.mm_definitions.specs.Units.{profile_of}
use Rattle.mm_column_limits.specs.Longest.{AreFew}
use Rattle.mm_check.proofs.Verdicts.{limits_pass, limits_stop, limits_fail, rule_passes, rule_stops, rule_fails}
use Rattle.mm_check.proofs.Verdicts.{all_pass}
use Rattle.mm_check.proofs.verdict.verify_known.Goals as goal

pub returns-then-not-branch : goal.returns-then-not-branch
returns-then-not-branch g c = limits_stop (profile_of c.args.unit) (AreFew c.args.longest)
    (state g.S.Store c.args.conn.now)
    (state g.S.Store c.limits.new.conn) (Ok c.in_ok-limits.field-0) refl c.if-not-branch.true c.in_ok-limits.ensures

pub returns-in_err-limits : goal.returns-in_err-limits
returns-in_err-limits g c =
    let p = err_from_is_err_and c.from_residual.result c.from_residual.ensures.1 in
    rw (p.1, p.2) (limits_fail (profile_of c.args.unit) (AreFew c.args.longest) (state g.S.Store c.args.conn.now)
    (state g.S.Store c.limits.new.conn) (Err c.in_err-limits.field-0.0) c.in_err-limits.field-0.0 refl
    c.in_err-limits.ensures)

pub rules-init : goal.rules-init
rules-init g c = limits_pass (profile_of c.args.unit) (AreFew c.args.longest) (state g.S.Store c.args.conn.now)
    (state g.S.Store c.limits.new.conn) (Ok c.in_ok-limits.field-0) refl c.if-not-branch.false c.in_ok-limits.ensures

pub returns-then-not-branch-2 : goal.returns-then-not-branch-2
returns-then-not-branch-2 g c =
    rw c.of.ensures
    (rule_stops (profile_of c.args.unit) (AreFew c.args.longest) (state g.S.Store c.args.conn.now)
    (state g.S.Store c.rules.conn)
    (state g.S.Store c.one_rule.new.conn) c.rules.k c.rules.auto.k c.rules-test.true c.rules.invariant
    (Ok c.in_ok-one_rule.field-0) refl c.if-not-branch-2.true c.in_ok-one_rule.ensures)

pub returns-in_err-one_rule : goal.returns-in_err-one_rule
returns-in_err-one_rule g c =
    let p = err_from_is_err_and c.from_residual-in_err-one_rule.result c.from_residual-in_err-one_rule.ensures.1 in
    rw (p.1, p.2) (rule_fails (profile_of c.args.unit) (AreFew c.args.longest) (state g.S.Store c.args.conn.now)
    (state g.S.Store c.rules.conn) (state g.S.Store c.one_rule.new.conn) c.rules.k c.rules.auto.k
    c.rules-test.true c.rules.invariant (Err c.in_err-one_rule.field-0.0) c.in_err-one_rule.field-0.0 refl
    c.in_err-one_rule.ensures)

pub rules-preserved : goal.rules-preserved
rules-preserved g c =
    rule_passes (profile_of c.args.unit) (AreFew c.args.longest) (state g.S.Store c.args.conn.now)
    (state g.S.Store c.rules.conn)
    (state g.S.Store c.one_rule.new.conn) c.rules.k c.rules.auto.k c.rules-test.true c.rules.invariant
    (Ok c.in_ok-one_rule.field-0) refl c.if-not-branch-2.false c.in_ok-one_rule.ensures

pub returns : goal.returns
returns g c =
    let most : c.rules.k ≤ 16 = c.rules.auto.k-end (omega arith) in
    let end : c.rules.k ≡ 16 = (let f = c.rules-test.false in omega (arith, f, most)) in
    all_pass (profile_of c.args.unit) (AreFew c.args.longest) (state g.S.Store c.args.conn.now)
    (state g.S.Store c.rules.conn) c.rules.k end c.rules.invariant
