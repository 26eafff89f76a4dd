use Rattle.mm_definitions.specs.Units.{profile_of}
use Rattle.std.proofs.Common.{[], refl}
use Rattle.sqlite.specs.Held.{state}
use Rattle.mm_column_limits.specs.EditionParts.{PiecesSpelled}
use Rattle.mm_definitions.specs.Rules.{Limits}
use Rattle.mm_column_limits.specs.EditionTexts as text
use Rattle.mm_column_limits.specs.PieceRows.{IsSpelledRow}
use Rattle.mm_walk.proofs.Checks.{checks}
use Rattle.mm_column_limits.proofs.EditionQueries as query
use Rattle.mm_column_limits.proofs.EditionRules as rule
use Rattle.mm_column_limits.proofs.editions.pieces_spelled.Goals as goal

pub returns : goal.returns
returns g c =
    checks text.pieces_spelled [] (IsSpelledRow (profile_of c.args.unit)) _ _ _ _ _ query.pieces_spelled
    query.quiet_pieces_spelled (λ p. Limits (profile_of c.args.unit) p)
    (λ p. PiecesSpelled (profile_of c.args.unit) p) (rule.pieces_spelled (profile_of c.args.unit))
    (profile_of c.args.unit)
    (state g.S.Store c.args.conn.now) (state g.S.Store c.each_passes.new.conn) [] refl c.each_passes.result
    c.each_passes.ensures
