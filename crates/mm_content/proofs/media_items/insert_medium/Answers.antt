use Rattle.std.proofs.Common.{◌≡◌, ◌∷◌, Ok, Some, None, refl, sym, ap, rules}
use Rattle.std.specs.FinMap.{get, insert}
use Rattle.sqlite.specs.declared.types.Value.TheVariants.{Int, Null}
use Rattle.sqlite.specs.Tree.{with_tree, put_row}
use Rattle.sqlite.specs.Edit.{next_rowid}
use Rattle.sqlite.specs.Held.{state}
use Rattle.sql_forms.proofs.Keys.{chosen_is_free}
use Rattle.sql_forms.proofs.Inserts.{has_inserted}
use Rattle.mm_definitions.specs.Keys.{item}
use Rattle.mm_definitions.proofs.Parts.{not_none}
use Rattle.mm_store.proofs.Inserting as statement
use Rattle.mm_store.specs.Blobs.{bytes_at}
use Rattle.mm_store.specs.Kept.{medium_with}
use Rattle.mm_store.specs.Rows.{medium_row}
use Rattle.mm_store.proofs.Parts.{puts}
use Rattle.mm_store.proofs.Keys as parts
use Rattle.mm_blobs.specs.Entries.{medium_of, with_medium, medium_names}
use Rattle.mm_blobs.specs.Views.{spare_but}
use Rattle.mm_blobs.proofs.Keeping.{kept_in, but_other}
use Rattle.mm_blobs.proofs.Moving.{moves_run, seen}
use Rattle.mm_blobs.proofs.Naming.{keeps_medium, holds_media}
use Rattle.mm_content.proofs.Writing.{stands_none}
use Rattle.mm_content.proofs.media_items.insert_medium.Goals as goal

pub returns : goal.returns
returns g c = record {
  same = search rules;
  named = λ profile spare bytes.
      let old = state g.S.Store c.args.tx.now.conn.now in
      let new = state g.S.Store c.run.new.tx.conn.now in
      let a = c.args in
      let key = item a.table.now a.id in
      let id = a.blob in
      let value = medium_of id a.content_type.now in
      let row = medium_row key value in
      let more = spare_but id spare in
      moves_run profile old new _ _ spare (λ db. with_tree db 19 (put_row (Int (next_rowid (db 19)) ∷ row) (db 19)))
      (λ x. (bytes_at x.kept.shelf id ≡ Some bytes) × (medium_names key x ≡ None)) (with_medium key value bytes) more
      c.run.result c.run.ensures.run (λ count ready h. has_inserted _ _ _ _ _ _ statement.insert_medium old new ready
      row _ (Ok count) Null row refl refl refl (search rules) h)
      (λ ready x h when.
      let free = stands_none (get x.kept.media key) when.1 in
      let kept = kept_in spare spare profile.version (seen old) x h in
      holds_media spare more profile.version (seen old) x h _ _ (insert x.content.media key (medium_with value bytes))
      (keeps_medium spare more (seen old) x.kept x.content kept _ key value bytes
      (puts parts.media (seen old 19) x.kept.media kept.media key value (Int (next_rowid (seen old 19)) ∷ row) free refl
      (chosen_is_free (seen old 19) row (ready.rows 19))) when.0
      (λ z spared other. but_other spare id z (λ e. other (ap Some (sym e))) spared)
      (λ z named other. absurd (not_none named.1 free))));
}
