use Rattle.std.proofs.Common.{◌≡◌, ◌≤◌, Ok, Err, refl, arith}
use Rattle.std.proofs.lemmas.Result.{err_from_is_err_and}
use Rattle.sqlite.specs.Held.{state}
use Rattle.mm_definitions.specs.Units.{profile_of}
use Rattle.mm_column_limits.specs.Longest.{AreFew}
use Rattle.mm_column_limits.proofs.LimitParts.{no_part, part_passes, part_stops, part_fails, parts_pass}
use Rattle.mm_column_limits.proofs.parts.limits.Goals as goal

pub parts-init : goal.parts-init
parts-init g c = no_part (profile_of c.args.unit) (AreFew c.args.longest) (state g.S.Store c.args.conn.now)

pub parts-preserved : goal.parts-preserved
parts-preserved g c =
    part_passes (profile_of c.args.unit) (AreFew c.args.longest) (state g.S.Store c.args.conn.now)
    (state g.S.Store c.parts.conn)
    (state g.S.Store c.one_limit.new.conn) c.parts.k c.parts.invariant
    (Ok c.in_ok-one_limit.field-0) refl c.if-not-branch.false c.in_ok-one_limit.ensures

pub returns-then-not-branch : goal.returns-then-not-branch
returns-then-not-branch g c =
    part_stops (profile_of c.args.unit) (AreFew c.args.longest) (state g.S.Store c.args.conn.now)
    (state g.S.Store c.parts.conn)
    (state g.S.Store c.one_limit.new.conn) c.parts.k c.parts.invariant
    (Ok c.in_ok-one_limit.field-0) refl c.if-not-branch.true c.in_ok-one_limit.ensures

pub returns-in_err-one_limit : goal.returns-in_err-one_limit
returns-in_err-one_limit g c =
    let p = err_from_is_err_and c.from_residual.result c.from_residual.ensures.1 in
    rw (p.1, p.2) (part_fails (profile_of c.args.unit) (AreFew c.args.longest) (state g.S.Store c.args.conn.now)
    (state g.S.Store c.parts.conn) (state g.S.Store c.one_limit.new.conn) c.parts.k c.parts.invariant
    (Err c.in_err-one_limit.field-0.0) c.in_err-one_limit.field-0.0 refl c.in_err-one_limit.ensures)

pub returns : goal.returns
returns g c =
    let most : c.parts.k ≤ 14 = c.parts.auto.k-end (omega arith) in
    let end : c.parts.k ≡ 14 = (let f = c.parts-test.false in omega (arith, f, most)) in
    parts_pass (profile_of c.args.unit) (AreFew c.args.longest) (state g.S.Store c.args.conn.now)
    (state g.S.Store c.parts.conn) c.parts.k end c.parts.invariant
