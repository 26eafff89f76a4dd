use Rattle.std.specs.Prelude.{⊤}
use Rattle.std.proofs.Common.{[], refl}
use Rattle.sqlite.specs.Held.{state}
use Rattle.mm_rules.specs.Parts.{ContentsExtents}
use Rattle.mm_rules.specs.Texts as text
use Rattle.mm_rules.specs.ContentsRows.{IsOrderedRow}
use Rattle.mm_walk.proofs.Checks.{checks}
use Rattle.mm_rules.proofs.ContentsQueries as query
use Rattle.mm_rules.proofs.ContentsRules as rule
use Rattle.mm_rules.proofs.contents.contents_extents.Goals as goal

pub returns : goal.returns
returns g c profile =
    checks text.contents_extents [] IsOrderedRow _ _ _ _ _ query.contents_extents query.quiet_contents_extents (λ _. ⊤)
    (λ p. ContentsExtents p) rule.contents_extents profile
    (state g.S.Store c.args.conn.now) (state g.S.Store c.each_passes.new.conn) [] refl c.each_passes.result
    c.each_passes.ensures
