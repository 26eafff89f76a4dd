use Rattle.std.specs.Prelude.{⊤}
use Rattle.std.proofs.Common.{[], refl}
use Rattle.sqlite.specs.Held.{state}
use Rattle.mm_rules.specs.Parts.{GeneralExtension}
use Rattle.mm_rules.specs.Texts as text
use Rattle.mm_rules.specs.ExtensionRows.{IsStandingRow}
use Rattle.mm_walk.proofs.Checks.{checks}
use Rattle.mm_rules.proofs.ExtensionQueries as query
use Rattle.mm_rules.proofs.ExtensionRules as rule
use Rattle.mm_rules.proofs.extensions.general_extension.Goals as goal

pub returns : goal.returns
returns g c profile =
    checks text.ask_general_extension [] IsStandingRow _ _ _ _ _ query.general_extension query.quiet_general_extension
    (λ _. ⊤) (λ p. GeneralExtension p) rule.general_extension profile
    (state g.S.Store c.args.conn.now) (state g.S.Store c.each_passes.new.conn) [] refl c.each_passes.result
    c.each_passes.ensures
