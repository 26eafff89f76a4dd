use Rattle.std.proofs.lemmas.Bool.{both_ways}
use Rattle.sqlite.specs.Held.{state}
use Rattle.mm_recovery.proofs.MadeAgain.{found_by, declined_by, made_where_none, not_made_where_none}
use Rattle.mm_recovery.proofs.again.create_or_adopt.Goals as goal

pub returns-in-Ok-clause-made_or_found : goal.returns-in-Ok-clause-made_or_found
returns-in-Ok-clause-made_or_found g c = found_by _ _ c.in-Ok.ensures.adopted

pub returns-then-not-has_no_profile-clause-neither : goal.returns-then-not-has_no_profile-clause-neither
returns-then-not-has_no_profile-clause-neither g c =
    declined_by (state g.S.Store c.args.conn) (state g.S.Store c.in-Err.declined.0) c.in-Err.declined.1
    c.in-Err.ensures.not_adopted
    (λ e. both_ways c.has_no_profile.result c.if-not-has_no_profile.true (c.has_no_profile.ensures.1 e))

pub returns-in-Ok-create-clause-made_or_found : goal.returns-in-Ok-create-clause-made_or_found
returns-in-Ok-create-clause-made_or_found g c =
    made_where_none (state g.S.Store c.args.conn) (state g.S.Store c.in-Err.declined.0)
    (state g.S.Store c.in-Ok-create.session.conn) c.in-Err.declined.1
    (c.has_no_profile.ensures.0 c.if-not-has_no_profile.false) c.in-Err.ensures.not_adopted
    c.in-Ok-create.ensures.created

pub returns-in-Err-create-clause-neither : goal.returns-in-Err-create-clause-neither
returns-in-Err-create-clause-neither g c =
    not_made_where_none (state g.S.Store c.args.conn) (state g.S.Store c.in-Err.declined.0)
    (state g.S.Store c.in-Err-create.conn) c.in-Err.declined.1
    (c.has_no_profile.ensures.0 c.if-not-has_no_profile.false) c.in-Err.ensures.not_adopted
    c.in-Err-create.fault c.in-Err-create.ensures.faults c.in-Err-create.ensures.not_created
