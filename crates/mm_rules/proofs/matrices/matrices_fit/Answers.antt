use Rattle.std.specs.Prelude.{⊤}
use Rattle.std.proofs.Common.{[], refl}
use Rattle.sqlite.specs.Held.{state}
use Rattle.mm_definitions.specs.Rules.{MatricesFit}
use Rattle.mm_rules.specs.Texts as text
use Rattle.mm_rules.specs.MatrixRows.{IsFittingRow}
use Rattle.mm_walk.proofs.Checks.{checks}
use Rattle.mm_rules.proofs.MatrixQueries as query
use Rattle.mm_rules.proofs.MatrixRules as rule
use Rattle.mm_rules.proofs.matrices.matrices_fit.Goals as goal

pub returns : goal.returns
returns g c profile =
    checks text.matrices_fit [] IsFittingRow _ _ _ _ _ query.matrices_fit query.quiet_matrices_fit (λ _. ⊤)
    (λ p. MatricesFit p.kinds p.sets p.matrices) rule.matrices_fit profile
    (state g.S.Store c.args.conn.now) (state g.S.Store c.each_passes.new.conn) [] refl c.each_passes.result
    c.each_passes.ensures
