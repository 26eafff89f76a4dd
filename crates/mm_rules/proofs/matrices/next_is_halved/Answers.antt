use Rattle.std.specs.Prelude.{⊤}
use Rattle.std.proofs.Common.{[], refl}
use Rattle.sqlite.specs.Held.{state}
use Rattle.mm_definitions.specs.Rules.{NextIsHalved}
use Rattle.mm_rules.specs.Texts as text
use Rattle.mm_rules.specs.MatrixRows.{IsHalvedRow}
use Rattle.mm_walk.proofs.Checks.{checks}
use Rattle.mm_rules.proofs.MatrixQueries as query
use Rattle.mm_rules.proofs.MatrixRules as rule
use Rattle.mm_rules.proofs.matrices.next_is_halved.Goals as goal

pub returns : goal.returns
returns g c profile =
    checks text.next_is_halved [] IsHalvedRow _ _ _ _ _ query.next_is_halved query.quiet_next_is_halved (λ _. ⊤)
    (λ p. NextIsHalved p.kinds p.matrices) rule.next_is_halved profile
    (state g.S.Store c.args.conn.now) (state g.S.Store c.each_passes.new.conn) [] refl c.each_passes.result
    c.each_passes.ensures
