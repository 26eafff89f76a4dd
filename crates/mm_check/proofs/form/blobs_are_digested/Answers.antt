use Rattle.std.proofs.Common.{[], refl}
use Rattle.sqlite.specs.Held.{state}
use Rattle.mm_check.specs.Form.{IsDigestedRow, IsShortRow, AreDigested}
use Rattle.mm_check.specs.declared.form.Digested.{Digested}
use Rattle.mm_check.proofs.Checks.{longest_told, none_told, not_told}
use Rattle.mm_check.proofs.Queries as query
use Rattle.mm_check.proofs.Rules as rule
use Rattle.mm_check.proofs.form.blobs_are_digested.Goals as goal

pub returns-in-Ok-Some : goal.returns-in-Ok-Some
returns-in-Ok-Some g c =
    longest_told query.digested_text IsDigestedRow (λ (it : Digested) row. IsShortRow it.longest row) _ _ _ _ _
    query.digested query.quiet_digested AreDigested rule.digested (λ it. it.longest) (λ it. rule.short it.longest)
    (state g.S.Store c.args.conn.now) (state g.S.Store c.each_noted.new.conn) [] refl c.in-Ok-Some.all
    (rw c.in-Ok-Some.field-0-is at c.in-Ok-Some.ensures)

pub returns-in-Ok-None : goal.returns-in-Ok-None
returns-in-Ok-None g c =
    none_told query.digested_text IsDigestedRow (λ (it : Digested) row. IsShortRow it.longest row) _ _ _ _ _
    query.digested query.quiet_digested AreDigested rule.digested (λ it. it.longest) (λ it. rule.short it.longest)
    (state g.S.Store c.args.conn.now) (state g.S.Store c.each_noted.new.conn) [] refl
    (rw c.in-Ok-None.field-0-is at c.in-Ok-None.ensures)

pub returns-in-Err : goal.returns-in-Err
returns-in-Err g c =
    not_told query.digested_text IsDigestedRow (λ (it : Digested) row. IsShortRow it.longest row) _ _ _ _ _
    query.digested query.quiet_digested AreDigested rule.digested (λ it. it.longest) (λ it. rule.short it.longest)
    (state g.S.Store c.args.conn.now) (state g.S.Store c.each_noted.new.conn) [] refl c.in-Err.fault c.in-Err.ensures
