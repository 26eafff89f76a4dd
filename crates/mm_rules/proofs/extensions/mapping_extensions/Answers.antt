use Rattle.std.specs.Prelude.{⊤}
use Rattle.std.proofs.Common.{[], refl}
use Rattle.sqlite.specs.Held.{state}
use Rattle.mm_rules.specs.Parts.{MappingExtensions}
use Rattle.mm_rules.specs.Texts as text
use Rattle.mm_rules.specs.ExtensionRows.{IsStandingRow}
use Rattle.mm_walk.proofs.Checks.{checks}
use Rattle.mm_rules.proofs.ExtensionQueries as query
use Rattle.mm_rules.proofs.ExtensionRules as rule
use Rattle.mm_rules.proofs.extensions.mapping_extensions.Goals as goal

pub returns : goal.returns
returns g c profile =
    checks text.mapping_extensions [] IsStandingRow _ _ _ _ _ query.mapping_extensions query.quiet_mapping_extensions
    (λ _. ⊤) (λ p. MappingExtensions p) rule.mapping_extensions profile
    (state g.S.Store c.args.conn.now) (state g.S.Store c.each_passes.new.conn) [] refl c.each_passes.result
    c.each_passes.ensures
