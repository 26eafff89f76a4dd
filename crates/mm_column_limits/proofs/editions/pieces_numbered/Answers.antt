use Rattle.std.proofs.Common.{[], refl}
use Rattle.sqlite.specs.Held.{state}
use Rattle.mm_column_limits.specs.EditionParts.{PiecesNumbered}
use Rattle.mm_definitions.specs.Rules.{Limits}
use Rattle.mm_column_limits.specs.EditionTexts as text
use Rattle.mm_column_limits.specs.PieceRows.{IsNumberedRow}
use Rattle.mm_walk.proofs.Checks.{checks}
use Rattle.mm_column_limits.proofs.EditionQueries as query
use Rattle.mm_column_limits.proofs.EditionRules as rule
use Rattle.mm_column_limits.proofs.editions.pieces_numbered.Goals as goal

pub returns : goal.returns
returns g c profile =
    checks text.pieces_numbered [] IsNumberedRow _ _ _ _ _ query.pieces_numbered query.quiet_pieces_numbered
    (λ p. Limits profile p) (λ p. PiecesNumbered p) (rule.pieces_numbered profile) profile
    (state g.S.Store c.args.conn.now) (state g.S.Store c.each_passes.new.conn) [] refl c.each_passes.result
    c.each_passes.ensures
