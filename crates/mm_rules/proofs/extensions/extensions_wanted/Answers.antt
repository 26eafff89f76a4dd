use Rattle.std.specs.Prelude.{⊤}
use Rattle.std.proofs.Common.{[], refl}
use Rattle.sqlite.specs.Held.{state}
use Rattle.mm_rules.specs.Parts.{ExtensionsWanted}
use Rattle.mm_rules.specs.Texts as text
use Rattle.mm_rules.specs.ExtensionRows.{IsWantedRow}
use Rattle.mm_walk.proofs.Checks.{checks}
use Rattle.mm_rules.proofs.ExtensionQueries as query
use Rattle.mm_rules.proofs.ExtensionRules as rule
use Rattle.mm_rules.proofs.extensions.extensions_wanted.Goals as goal

pub returns : goal.returns
returns g c profile =
    checks text.extensions_wanted [] IsWantedRow _ _ _ _ _ query.extensions_wanted query.quiet_extensions_wanted
    (λ _. ⊤) (λ p. ExtensionsWanted p) rule.extensions_wanted profile
    (state g.S.Store c.args.conn.now) (state g.S.Store c.each_passes.new.conn) [] refl c.each_passes.result
    c.each_passes.ensures
