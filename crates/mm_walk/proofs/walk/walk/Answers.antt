use Rattle.std.proofs.Common.{◌∙◌, Ok, Err, true, false, inr, refl, rules}
use Rattle.std.proofs.lemmas.Result.{err_from_is_err_and}
use Rattle.sqlite.specs.Held.{state}
use Rattle.sqlite.specs.Values.{bound}
use Rattle.mm_walk.specs.Walk.{IsWalk}
use Rattle.mm_walk.proofs.Walking.{begun_so_far, refused, endless, cut_off, ended, goes_on, stopped, gave_up}
use Rattle.mm_walk.proofs.walk.walk.Goals as goal

pub returns-in-Err : goal.returns-in-Err
returns-in-Err g c =
    let rests = rw c.in-Err.is at c.query.follows.holds-at-none in
    refused g.S.Store g.V.Visitor.takes c.args.sql.now (bound c.args.params.now) c.args.conn.now
    c.query.follows.lender-at-none c.args.visitor.now c.in-Err.error c.fault_of.result c.fault_of.ensures
    rests.mode rests.survives rests.err

pub rows-init : goal.rows-init
rows-init g c = (
  refl,
  begun_so_far g.S.Store g.V.Visitor.takes c.args.sql.now
      (bound c.args.params.now) c.args.conn.now c.in-Ok.rows.conn.now c.args.visitor.now c.in-Ok.ensures.mode
      c.in-Ok.ensures.survives c.in-Ok.ensures.begun,
)

pub returns-then-not-branch : goal.returns-then-not-branch
returns-then-not-branch g c =
    let moved = c.next.follows.holds-at-none in
    let new = c.next.follows.lender-at-none.conn.now in
    let takes = g.V.Visitor.takes in
    let step : takes c.rows.visitor c.in-Ok-Some.row.now c.take.new.self (Ok false) = search rules in
    let it : IsWalk takes c.args.sql.now (bound c.args.params.now) (state g.S.Store c.args.conn.now)
    (state g.S.Store new) c.args.visitor.now c.take.new.self (Ok false) =
    stopped g.S.Store takes c.args.sql.now (bound c.args.params.now) c.args.conn.now c.rows.rows.conn.now
    c.args.visitor.now c.rows.visitor c.rows.invariant.1 new moved.mode moved.survives
    (λ clean. rw c.in-Ok-Some.is at (moved.same clean)) c.in-Ok-Some.row.now
    (λ clean given has. (rw (c.in-Ok-Some.is, c.in-Ok-Some.field-0-is) at (moved.ok clean)) _ _ given has)
    c.take.new.self step in
    search rules

pub returns-in_err-take-in-Ok-Some : goal.returns-in_err-take-in-Ok-Some
returns-in_err-take-in-Ok-Some g c =
    let p = err_from_is_err_and c.from_residual.result c.from_residual.ensures.1 in
    let moved = c.next.follows.holds-at-none in
    let new = c.next.follows.lender-at-none.conn.now in
    let takes = g.V.Visitor.takes in
    let step : takes c.rows.visitor c.in-Ok-Some.row.now c.take.new.self (Err c.in_err-take-in-Ok-Some.field-0.0) =
    search rules in
    let it : IsWalk takes c.args.sql.now (bound c.args.params.now) (state g.S.Store c.args.conn.now)
    (state g.S.Store new) c.args.visitor.now c.take.new.self (Err c.in_err-take-in-Ok-Some.field-0.0) =
    gave_up g.S.Store takes c.args.sql.now (bound c.args.params.now) c.args.conn.now c.rows.rows.conn.now
    c.args.visitor.now c.rows.visitor c.rows.invariant.1 new moved.mode moved.survives
    (λ clean. rw c.in-Ok-Some.is at (moved.same clean)) c.in-Ok-Some.row.now
    (λ clean given has. (rw (c.in-Ok-Some.is, c.in-Ok-Some.field-0-is) at (moved.ok clean)) _ _ given has)
    c.take.new.self c.in_err-take-in-Ok-Some.field-0.0 step in
    rw (p.1, p.2) (search rules)

pub returns-in-Ok-None : goal.returns-in-Ok-None
returns-in-Ok-None g c =
    let moved = c.next.follows.holds-at-none in
    let new = c.next.follows.lender-at-none.conn.now in
    let takes = g.V.Visitor.takes in
    let it : IsWalk takes c.args.sql.now (bound c.args.params.now) (state g.S.Store c.args.conn.now)
    (state g.S.Store new) c.args.visitor.now c.rows.visitor (Ok true) =
    ended g.S.Store takes c.args.sql.now (bound c.args.params.now) c.args.conn.now c.rows.rows.conn.now
    c.args.visitor.now c.rows.visitor c.rows.invariant.1 new moved.mode moved.survives
    (λ clean. rw c.in-Ok-None.is at (moved.same clean))
    (λ clean given has. (rw (c.in-Ok-None.is, c.in-Ok-None.field-0-is) at (moved.ok clean)) _ _ given has) in
    search rules

pub returns-in-Err-next : goal.returns-in-Err-next
returns-in-Err-next g c =
    let moved = c.next.follows.holds-at-none in
    let new = c.next.follows.lender-at-none.conn.now in
    let takes = g.V.Visitor.takes in
    let it : IsWalk takes c.args.sql.now (bound c.args.params.now) (state g.S.Store c.args.conn.now)
    (state g.S.Store new) c.args.visitor.now c.rows.visitor (Err c.fault_of-in-Err-next.result) =
    cut_off g.S.Store takes c.args.sql.now (bound c.args.params.now) c.args.conn.now c.rows.rows.conn.now
    c.args.visitor.now c.rows.visitor c.rows.invariant.1 new moved.mode moved.survives
    c.in-Err-next.error c.fault_of-in-Err-next.result c.fault_of-in-Err-next.ensures
    (λ clean. rw c.in-Err-next.is at (moved.kept clean)) in
    search rules

pub rows-preserved : goal.rows-preserved
rows-preserved g c =
    let moved = c.next.follows.holds-at-none in
    let new = c.next.follows.lender-at-none.conn.now in
    let takes = g.V.Visitor.takes in
    let step : takes c.rows.visitor c.in-Ok-Some.row.now c.take.new.self (Ok true) = search rules in (
      moved.same_reference ∙ c.rows.invariant.0,
      goes_on g.S.Store takes c.args.sql.now (bound c.args.params.now) c.args.conn.now c.rows.rows.conn.now
          c.args.visitor.now c.rows.visitor c.rows.invariant.1 new moved.mode moved.survives
          (λ clean. rw c.in-Ok-Some.is at (moved.same clean)) c.in-Ok-Some.row.now
          (λ clean given has. (rw (c.in-Ok-Some.is, c.in-Ok-Some.field-0-is) at (moved.ok clean)) _ _ given has)
          c.take.new.self step,
    )

pub returns : goal.returns
returns g c =
    let takes = g.V.Visitor.takes in
    let it = endless g.S.Store takes c.args.sql.now (bound c.args.params.now) c.args.conn.now c.rows.rows.conn.now
    c.args.visitor.now c.rows.visitor c.rows.invariant.1 (record { 0 = 91 }) (inr refl) in
    search rules
