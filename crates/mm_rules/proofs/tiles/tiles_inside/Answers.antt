use Rattle.std.specs.Prelude.{⊤}
use Rattle.std.proofs.Common.{[], refl}
use Rattle.sqlite.specs.Held.{state}
use Rattle.mm_definitions.specs.Rules.{TilesInside}
use Rattle.mm_rules.specs.Texts as text
use Rattle.mm_rules.specs.TileRows.{IsInsideRow}
use Rattle.mm_walk.proofs.Checks.{checks}
use Rattle.mm_rules.proofs.MatrixQueries as query
use Rattle.mm_rules.proofs.TileRules as rule
use Rattle.mm_rules.proofs.tiles.tiles_inside.Goals as goal

pub returns : goal.returns
returns g c profile =
    checks text.tiles_inside [] IsInsideRow _ _ _ _ _ query.tiles_inside query.quiet_tiles_inside (λ _. ⊤)
    (λ p. TilesInside p.matrices p.tiles) rule.tiles_inside profile
    (state g.S.Store c.args.conn.now) (state g.S.Store c.each_passes.new.conn) [] refl c.each_passes.result
    c.each_passes.ensures
