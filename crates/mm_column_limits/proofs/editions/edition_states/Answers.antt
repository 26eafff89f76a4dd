use Rattle.std.proofs.Common.{[], refl}
use Rattle.sqlite.specs.Held.{state}
use Rattle.mm_column_limits.specs.EditionParts.{EditionStates}
use Rattle.mm_definitions.specs.Rules.{Limits}
use Rattle.mm_column_limits.specs.EditionTexts as text
use Rattle.mm_column_limits.specs.PieceRows.{IsStateRow}
use Rattle.mm_walk.proofs.Checks.{checks}
use Rattle.mm_column_limits.proofs.EditionQueries as query
use Rattle.mm_column_limits.proofs.EditionRules as rule
use Rattle.mm_column_limits.proofs.editions.edition_states.Goals as goal

pub returns : goal.returns
returns g c profile =
    checks text.edition_states [] IsStateRow _ _ _ _ _ query.edition_states query.quiet_edition_states
    (λ p. Limits profile p) (λ p. EditionStates p) (rule.edition_states profile) profile
    (state g.S.Store c.args.conn.now) (state g.S.Store c.each_passes.new.conn) [] refl c.each_passes.result
    c.each_passes.ensures
