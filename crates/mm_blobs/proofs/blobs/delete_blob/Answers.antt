use Rattle.std.proofs.Common.{[], ◌∷◌, Ok, rules}
use Rattle.std.specs.FinMap.{remove}
use Rattle.sqlite.specs.declared.types.Value.TheVariants.{Int}
use Rattle.sqlite.specs.Tree.{with_tree}
use Rattle.sqlite.specs.Held.{state}
use Rattle.sql_forms.specs.Tables.{without}
use Rattle.sql_forms.proofs.Deletes.{has_deleted}
use Rattle.mm_store.proofs.Keys.{by_number}
use Rattle.mm_store.proofs.Deleting as statement
use Rattle.mm_store.specs.Kept.{IsNamed}
use Rattle.mm_blobs.specs.Views.{spare_but}
use Rattle.mm_blobs.proofs.Moving.{moves_run, seen}
use Rattle.mm_blobs.proofs.Keeping.{keeps_less, kept_in, holds_with}
use Rattle.mm_blobs.proofs.blobs.delete_blob.Goals as goal

pub returns : goal.returns
returns g c = record {
  same = search rules;
  gone = λ profile spare.
      let old = state g.S.Store c.args.tx.now.conn.now in
      let new = state g.S.Store c.run.new.tx.conn.now in
      let id = c.args.id in
      moves_run profile old new _ _ spare (λ db. with_tree db 27 (without (by_number id) (db 27)))
      (λ x. ¬ IsNamed x.kept id) (λ x. record x { kept = record (x.kept) { shelf = remove x.kept.shelf id } })
      (spare_but id spare) c.run.result c.run.ensures.run
      (λ count ready h. has_deleted _ _ _ _ _ statement.delete_blob old new ready (Int id ∷ []) _ (search rules)
      (Ok count) h)
      (λ ready x h unnamed. holds_with spare (spare_but id spare) profile.version (seen old) x h _ _
      (keeps_less spare (seen old) x.kept x.content (kept_in spare spare profile.version (seen old) x h) id unnamed));
}
