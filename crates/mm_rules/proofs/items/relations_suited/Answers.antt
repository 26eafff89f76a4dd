use Rattle.std.specs.Prelude.{⊤}
use Rattle.std.proofs.Common.{[], refl}
use Rattle.sqlite.specs.Held.{state}
use Rattle.mm_definitions.specs.Rules.{RelationsSuited}
use Rattle.mm_rules.specs.Texts as text
use Rattle.mm_rules.specs.ItemRows.{IsSuitedRow}
use Rattle.mm_walk.proofs.Checks.{checks}
use Rattle.mm_rules.proofs.ItemQueries as query
use Rattle.mm_rules.proofs.ItemRules as rule
use Rattle.mm_rules.proofs.items.relations_suited.Goals as goal

pub returns : goal.returns
returns g c profile =
    checks text.relations_suited [] IsSuitedRow _ _ _ _ _ query.relations_suited query.quiet_relations_suited (λ _. ⊤)
    (λ p. RelationsSuited p.kinds p.relations) rule.relations_suited profile
    (state g.S.Store c.args.conn.now) (state g.S.Store c.each_passes.new.conn) [] refl c.each_passes.result
    c.each_passes.ensures
