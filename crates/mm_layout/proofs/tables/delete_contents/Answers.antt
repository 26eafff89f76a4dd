use Rattle.std.proofs.Common.{◌≡◌, ℤ, true, Ok, ap, rules}
use Rattle.sqlite.specs.declared.types.Value.TheVariants.{Text as Words}
use Rattle.sqlite.specs.Held.{state}
use Rattle.sql_forms.specs.Cascade.{cut}
use Rattle.sql_forms.proofs.Cascades.{cascaded}
use Rattle.mm_store.specs.Places.{table_place}
use Rattle.mm_store.proofs.Cascading as statement
use Rattle.mm_store.specs.Kept.{no_spare}
use Rattle.mm_store.specs.Removals.{without_table_rows, kept_without_table, FreedByTable}
use Rattle.mm_blobs.specs.Views.{View, IsSeen}
use Rattle.mm_blobs.proofs.Moving.{moves_run, moves_less, seen}
use Rattle.mm_layout.proofs.Freeing.{holds_without}
use Rattle.mm_layout.proofs.tables.delete_contents.Goals as goal

pub returns : goal.returns
returns g c = record {
  same = search rules;
  gone = λ profile more.
      let old = state g.S.Store c.args.tx.now.conn.now in
      let new = state g.S.Store c.run.new.tx.conn.now in
      let table = c.args.table.now in
      moves_less (λ base x _ y. (y.content ≡ without_table_rows table x.content) × IsSeen more profile new base y) old
      new c.run.result
      (moves_run profile old new _ _ no_spare (cut table_place (Words table))
      (λ x. (z : ℤ) → FreedByTable table x.kept z → more z ≡ true)
      (λ x. record { content = without_table_rows table x.content; kept = kept_without_table table x.kept }) more
      c.run.result c.run.ensures.run
      (λ count ready h. cascaded _ _ _ _ _ _ statement.delete_table old new (Words table) _ (Ok count) ready
      (search rules) h)
      (λ ready x h freed. holds_without table more profile.version (seen old) x h freed))
      (λ base x it. it) (λ base x y t it last. (ap (λ (v : View). v.content) last.0, last.1));
}
