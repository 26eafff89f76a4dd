use Rattle.std.specs.Prelude.{⊤}
use Rattle.std.proofs.Common.{[], refl}
use Rattle.sqlite.specs.Held.{state}
use Rattle.mm_rules.specs.Parts.{RowsInTables}
use Rattle.mm_rules.specs.Texts as text
use Rattle.mm_rules.specs.ItemRows.{IsAttributesRow}
use Rattle.mm_walk.proofs.Checks.{checks}
use Rattle.mm_rules.proofs.ItemQueries as query
use Rattle.mm_rules.proofs.ItemRules as rule
use Rattle.mm_rules.proofs.items.rows_in_tables.Goals as goal

pub returns : goal.returns
returns g c profile =
    checks text.rows_in_tables [] IsAttributesRow _ _ _ _ _ query.rows_in_tables query.quiet_rows_in_tables (λ _. ⊤)
    (λ p. RowsInTables p) rule.rows_in_tables profile
    (state g.S.Store c.args.conn.now) (state g.S.Store c.each_passes.new.conn) [] refl c.each_passes.result
    c.each_passes.ensures
