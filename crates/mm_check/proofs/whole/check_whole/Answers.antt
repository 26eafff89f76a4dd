use Rattle.sqlite.specs.Held.{state}
use Rattle.mm_definitions.specs.Units.{profile_of}
use Rattle.mm_check.proofs.Wholly.{blobs_told, form_unknown, checked_well, rule_told, check_stopped}
use Rattle.mm_check.proofs.whole.check_whole.Goals as goal

pub returns-in-Ok-None : goal.returns-in-Ok-None
returns-in-Ok-None g c =
    blobs_told (profile_of c.args.unit) (state g.S.Store c.args.conn.now) (state g.S.Store c.blobs_stand.new.conn)
    (rw c.in-Ok-None.field-0-is at c.in-Ok-None.ensures.form)

pub returns-in-Err : goal.returns-in-Err
returns-in-Err g c =
    form_unknown (profile_of c.args.unit) (state g.S.Store c.args.conn.now) (state g.S.Store c.blobs_stand.new.conn)
    c.in-Err.fault c.in-Err.ensures.form

pub returns-in-Ok-None-verify_known : goal.returns-in-Ok-None-verify_known
returns-in-Ok-None-verify_known g c =
    checked_well (profile_of c.args.unit) (state g.S.Store c.args.conn.now) (state g.S.Store c.blobs_stand.new.conn)
    (state g.S.Store c.verify_known.new.conn) c.in-Ok-Some.longest
    (rw c.in-Ok-Some.field-0-is at c.in-Ok-Some.ensures.form)
    (rw c.in-Ok-None-verify_known.field-0-is at c.in-Ok-None-verify_known.ensures)

pub returns-in-Ok-Some-verify_known : goal.returns-in-Ok-Some-verify_known
returns-in-Ok-Some-verify_known g c =
    rule_told (profile_of c.args.unit) (state g.S.Store c.args.conn.now) (state g.S.Store c.blobs_stand.new.conn)
    (state g.S.Store c.verify_known.new.conn) c.in-Ok-Some.longest
    (rw c.in-Ok-Some.field-0-is at c.in-Ok-Some.ensures.form) c.in-Ok-Some-verify_known.rule
    (rw c.in-Ok-Some-verify_known.field-0-is at c.in-Ok-Some-verify_known.ensures)

pub returns-in-Err-verify_known : goal.returns-in-Err-verify_known
returns-in-Err-verify_known g c =
    check_stopped (profile_of c.args.unit) (state g.S.Store c.args.conn.now) (state g.S.Store c.blobs_stand.new.conn)
    (state g.S.Store c.verify_known.new.conn) c.in-Ok-Some.longest
    (rw c.in-Ok-Some.field-0-is at c.in-Ok-Some.ensures.form) c.in-Err-verify_known.fault
    c.in-Err-verify_known.ensures
