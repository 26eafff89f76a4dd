use Rattle.std.proofs.Common.{[], refl}
use Rattle.sqlite.specs.Held.{state}
use Rattle.mm_check.specs.Form.{AreNamed}
use Rattle.mm_check.proofs.Checks.{forms}
use Rattle.mm_store.specs.Compiled as text
use Rattle.mm_check.proofs.Queries as query
use Rattle.mm_check.proofs.Rules as rule
use Rattle.mm_check.proofs.form.blobs_are_named.Goals as goal

pub returns : goal.returns
returns g c =
    forms text.unnamed_blobs (λ _. ⊥) _ _ _ _ _ query.named query.quiet_named AreNamed rule.named
    (state g.S.Store c.args.conn.now) (state g.S.Store c.each_passes.new.conn) [] refl c.each_passes.result
    c.each_passes.ensures
