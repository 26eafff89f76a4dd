use Rattle.std.specs.Prelude.{⊤}
use Rattle.std.proofs.Common.{[], refl}
use Rattle.sqlite.specs.Held.{state}
use Rattle.mm_definitions.specs.Rules.{PairingsJoin}
use Rattle.mm_rules.specs.Texts as text
use Rattle.mm_rules.specs.ItemRows.{IsJoinedRow}
use Rattle.mm_walk.proofs.Checks.{checks}
use Rattle.mm_rules.proofs.ItemQueries as query
use Rattle.mm_rules.proofs.ItemRules as rule
use Rattle.mm_rules.proofs.items.pairings_join.Goals as goal

pub returns : goal.returns
returns g c profile =
    checks text.pairings_join [] IsJoinedRow _ _ _ _ _ query.pairings_join query.quiet_pairings_join (λ _. ⊤)
    (λ p. PairingsJoin p.rows p.media p.relations p.pairings) rule.pairings_join profile
    (state g.S.Store c.args.conn.now) (state g.S.Store c.each_passes.new.conn) [] refl c.each_passes.result
    c.each_passes.ensures
