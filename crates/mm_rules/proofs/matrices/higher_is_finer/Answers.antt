use Rattle.std.specs.Prelude.{⊤}
use Rattle.std.proofs.Common.{[], refl}
use Rattle.sqlite.specs.Held.{state}
use Rattle.mm_definitions.specs.Rules.{HigherIsFiner}
use Rattle.mm_rules.specs.Texts as text
use Rattle.mm_rules.specs.MatrixRows.{IsFinerRow}
use Rattle.mm_walk.proofs.Checks.{checks}
use Rattle.mm_rules.proofs.MatrixQueries as query
use Rattle.mm_rules.proofs.MatrixRules as rule
use Rattle.mm_rules.proofs.matrices.higher_is_finer.Goals as goal

pub returns : goal.returns
returns g c profile =
    checks text.higher_is_finer [] IsFinerRow _ _ _ _ _ query.higher_is_finer query.quiet_higher_is_finer (λ _. ⊤)
    (λ p. HigherIsFiner p.matrices) rule.higher_is_finer profile
    (state g.S.Store c.args.conn.now) (state g.S.Store c.each_passes.new.conn) [] refl c.each_passes.result
    c.each_passes.ensures
