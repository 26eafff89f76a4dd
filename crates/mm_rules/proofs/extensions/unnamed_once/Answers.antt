use Rattle.std.specs.Prelude.{⊤}
use Rattle.std.proofs.Common.{[], refl}
use Rattle.sqlite.specs.Held.{state}
use Rattle.mm_rules.specs.Parts.{UnnamedOnce}
use Rattle.mm_rules.specs.Texts as text
use Rattle.mm_rules.specs.ExtensionRows.{NoRow}
use Rattle.mm_walk.proofs.Checks.{checks}
use Rattle.mm_rules.proofs.ExtensionQueries as query
use Rattle.mm_rules.proofs.ExtensionRules as rule
use Rattle.mm_rules.proofs.extensions.unnamed_once.Goals as goal

pub returns : goal.returns
returns g c profile =
    checks text.unnamed_once [] NoRow _ _ _ _ _ query.unnamed_once query.quiet_unnamed_once (λ _. ⊤)
    (λ p. UnnamedOnce p) rule.unnamed_once profile
    (state g.S.Store c.args.conn.now) (state g.S.Store c.each_passes.new.conn) [] refl c.each_passes.result
    c.each_passes.ensures
