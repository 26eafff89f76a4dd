use Rattle.std.proofs.Common.{[], refl}
use Rattle.sqlite.specs.Held.{state}
use Rattle.mm_check.specs.Form.{AreApart}
use Rattle.mm_check.proofs.Checks.{forms}
use Rattle.mm_check.proofs.Queries as query
use Rattle.mm_check.proofs.Rules as rule
use Rattle.mm_check.proofs.form.blobs_are_apart.Goals as goal

pub returns : goal.returns
returns g c =
    forms query.apart_text (λ _. ⊥) _ _ _ _ _ query.apart query.quiet_apart AreApart rule.apart
    (state g.S.Store c.args.conn.now) (state g.S.Store c.each_passes.new.conn) [] refl c.each_passes.result
    c.each_passes.ensures
