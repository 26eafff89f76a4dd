use Rattle.std.specs.Prelude.{⊤}
use Rattle.std.proofs.Common.{[], refl}
use Rattle.sqlite.specs.Held.{state}
use Rattle.mm_rules.specs.Parts.{MediaInTables}
use Rattle.mm_rules.specs.Texts as text
use Rattle.mm_rules.specs.ItemRows.{IsMediaRow}
use Rattle.mm_walk.proofs.Checks.{checks}
use Rattle.mm_rules.proofs.ItemQueries as query
use Rattle.mm_rules.proofs.ItemRules as rule
use Rattle.mm_rules.proofs.items.media_in_tables.Goals as goal

pub returns : goal.returns
returns g c profile =
    checks text.media_in_tables [] IsMediaRow _ _ _ _ _ query.media_in_tables query.quiet_media_in_tables (λ _. ⊤)
    (λ p. MediaInTables p) rule.media_in_tables profile
    (state g.S.Store c.args.conn.now) (state g.S.Store c.each_passes.new.conn) [] refl c.each_passes.result
    c.each_passes.ensures
