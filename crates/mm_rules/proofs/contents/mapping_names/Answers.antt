use Rattle.std.specs.Prelude.{⊤}
use Rattle.std.proofs.Common.{[], refl}
use Rattle.sqlite.specs.Held.{state}
use Rattle.mm_rules.specs.Parts.{MappingNames}
use Rattle.mm_rules.specs.Texts as text
use Rattle.mm_rules.specs.ContentsRows.{IsAbsentRow}
use Rattle.mm_walk.proofs.Checks.{checks}
use Rattle.mm_rules.proofs.ContentsQueries as query
use Rattle.mm_rules.proofs.ContentsRules as rule
use Rattle.mm_rules.proofs.contents.mapping_names.Goals as goal

pub returns : goal.returns
returns g c profile =
    checks text.mapping_names [] IsAbsentRow _ _ _ _ _ query.mapping_names query.quiet_mapping_names (λ _. ⊤)
    (λ p. MappingNames p) rule.mapping_names profile
    (state g.S.Store c.args.conn.now) (state g.S.Store c.each_passes.new.conn) [] refl c.each_passes.result
    c.each_passes.ensures
