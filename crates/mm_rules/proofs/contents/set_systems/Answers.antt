use Rattle.std.specs.Prelude.{⊤}
use Rattle.std.proofs.Common.{[], refl}
use Rattle.sqlite.specs.Held.{state}
use Rattle.mm_rules.specs.Parts.{SetSystems}
use Rattle.mm_rules.specs.Texts as text
use Rattle.mm_rules.specs.ContentsRows.{MayNameRow}
use Rattle.mm_walk.proofs.Checks.{checks}
use Rattle.mm_rules.proofs.ContentsQueries as query
use Rattle.mm_rules.proofs.ContentsRules as rule
use Rattle.mm_rules.proofs.contents.set_systems.Goals as goal

pub returns : goal.returns
returns g c profile =
    checks text.set_systems [] MayNameRow _ _ _ _ _ query.set_systems query.quiet_set_systems (λ _. ⊤)
    (λ p. SetSystems p) rule.set_systems profile
    (state g.S.Store c.args.conn.now) (state g.S.Store c.each_passes.new.conn) [] refl c.each_passes.result
    c.each_passes.ensures
