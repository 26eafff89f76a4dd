use Rattle.std.proofs.Common.{[], map, Ok, rules}
use Rattle.std.specs.Prelude.{⊤}
use Rattle.sqlite.specs.Tree.{with_tree}
use Rattle.sqlite.specs.Held.{state}
use Rattle.sql_forms.proofs.Updates.{has_changed, updated}
use Rattle.mm_definitions.specs.Bounds.{micrometres}
use Rattle.mm_store.specs.Tables.{mm_profile}
use Rattle.mm_store.proofs.Steps.{seen}
use Rattle.mm_migrate.specs.Texts.{version_sets}
use Rattle.mm_migrate.proofs.Statements as statement
use Rattle.mm_migrate.proofs.Made as scaling
use Rattle.mm_migrate.proofs.Moves.{moves}
use Rattle.mm_migrate.proofs.scaling.set_version.Goals as goal

pub returns : goal.returns
returns g c = record {
  same = search rules;
  moved = λ from.
      let old = state g.S.Store c.args.tx.now.conn.now in
      let new = state g.S.Store c.run.new.tx.conn.now in
      moves from micrometres old new _ _ (λ db. with_tree db 12 (map (updated mm_profile version_sets []) (db 12)))
      (λ p. ⊤) (λ p. p) c.run.result c.run.ensures.run
      (λ count ready h. has_changed _ _ _ _ _ _ statement.version old new ready [] _ (Ok count) (search rules) h)
      (λ p h any. scaling.renamed from.version (seen old) p h);
}
