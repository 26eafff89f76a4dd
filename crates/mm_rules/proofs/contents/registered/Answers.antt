use Rattle.std.specs.Prelude.{⊤}
use Rattle.std.proofs.Common.{[], refl}
use Rattle.sqlite.specs.Held.{state}
use Rattle.mm_rules.specs.Parts.{Registered}
use Rattle.mm_rules.specs.Texts as text
use Rattle.mm_rules.specs.ContentsRows.{IsRegisteredRow}
use Rattle.mm_walk.proofs.Checks.{checks}
use Rattle.mm_rules.proofs.ContentsQueries as query
use Rattle.mm_rules.proofs.ContentsRules as rule
use Rattle.mm_rules.proofs.contents.registered.Goals as goal

pub returns : goal.returns
returns g c profile =
    checks text.registered [] IsRegisteredRow _ _ _ _ _ query.registered query.quiet_registered (λ _. ⊤)
    (λ p. Registered p) rule.registered profile
    (state g.S.Store c.args.conn.now) (state g.S.Store c.each_passes.new.conn) [] refl c.each_passes.result
    c.each_passes.ensures
