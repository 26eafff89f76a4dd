use Rattle.std.specs.Prelude.{⊤}
use Rattle.std.proofs.Common.{[], refl}
use Rattle.sqlite.specs.Held.{state}
use Rattle.mm_definitions.specs.Rules.{DistinctIdentifiers}
use Rattle.mm_rules.specs.Texts as text
use Rattle.mm_rules.specs.ContentsRows.{IsSameRow}
use Rattle.mm_walk.proofs.Checks.{checks}
use Rattle.mm_rules.proofs.ContentsQueries as query
use Rattle.mm_rules.proofs.ContentsRules as rule
use Rattle.mm_rules.proofs.contents.distinct_identifiers.Goals as goal

pub returns : goal.returns
returns g c profile =
    checks text.distinct_identifiers [] IsSameRow _ _ _ _ _ query.distinct_identifiers query.quiet_distinct_identifiers
    (λ _. ⊤) (λ p. DistinctIdentifiers p.contents) rule.distinct_identifiers profile
    (state g.S.Store c.args.conn.now) (state g.S.Store c.each_passes.new.conn) [] refl c.each_passes.result
    c.each_passes.ensures
