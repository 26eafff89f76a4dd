use Rattle.std.specs.Prelude.{⊤}
use Rattle.std.proofs.Common.{[], refl}
use Rattle.sqlite.specs.Held.{state}
use Rattle.mm_rules.specs.Parts.{SetsHaveContents}
use Rattle.mm_rules.specs.Texts as text
use Rattle.mm_rules.specs.ContentsRows.{IsThereRow}
use Rattle.mm_walk.proofs.Checks.{checks}
use Rattle.mm_rules.proofs.ContentsQueries as query
use Rattle.mm_rules.proofs.ContentsRules as rule
use Rattle.mm_rules.proofs.contents.sets_have_contents.Goals as goal

pub returns : goal.returns
returns g c profile =
    checks text.sets_have_contents [] IsThereRow _ _ _ _ _ query.sets_have_contents query.quiet_sets_have_contents
    (λ _. ⊤) (λ p. SetsHaveContents p) rule.sets_have_contents profile
    (state g.S.Store c.args.conn.now) (state g.S.Store c.each_passes.new.conn) [] refl c.each_passes.result
    c.each_passes.ensures
