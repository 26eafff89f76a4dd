use Rattle.std.proofs.Common.{◌≡◌, ◌∷◌, Ok, Some, None, refl, sym, ap, rules}
use Rattle.std.specs.FinMap.{get, insert}
use Rattle.sqlite.specs.declared.types.Value.TheVariants.{Int, Null}
use Rattle.sqlite.specs.Tree.{with_tree, put_row}
use Rattle.sqlite.specs.Edit.{next_rowid}
use Rattle.sqlite.specs.Held.{state}
use Rattle.sql_forms.proofs.Keys.{chosen_is_free}
use Rattle.sql_forms.proofs.Inserts.{has_inserted}
use Rattle.mm_definitions.proofs.Parts.{not_none}
use Rattle.mm_store.proofs.Inserting as statement
use Rattle.mm_store.specs.Blobs.{bytes_at}
use Rattle.mm_store.specs.Rows.{tile_row}
use Rattle.mm_store.proofs.Parts.{puts}
use Rattle.mm_store.proofs.Keys as parts
use Rattle.mm_blobs.specs.Entries.{with_tile}
use Rattle.mm_blobs.specs.Views.{spare_but}
use Rattle.mm_blobs.proofs.Keeping.{kept_in, but_other}
use Rattle.mm_blobs.proofs.Moving.{moves_run, seen}
use Rattle.mm_blobs.proofs.Naming.{keeps_tile, holds_tiles}
use Rattle.mm_definitions.specs.Places.{tile_at}
use Rattle.mm_content.proofs.tiles.insert_tile.Goals as goal

pub returns : goal.returns
returns g c = record {
  same = search rules;
  named = λ profile spare bytes.
      let old = state g.S.Store c.args.tx.now.conn.now in
      let new = state g.S.Store c.run.new.tx.conn.now in
      let a = c.args in
      let key = tile_at a.table.now a.place in
      let id = a.blob in
      let row = tile_row key id in
      let more = spare_but id spare in
      moves_run profile old new _ _ spare (λ db. with_tree db 15 (put_row (Int (next_rowid (db 15)) ∷ row) (db 15)))
      (λ x. (bytes_at x.kept.shelf id ≡ Some bytes) × (get x.kept.tiles key ≡ None)) (with_tile key id bytes) more
      c.run.result c.run.ensures.run (λ count ready h. has_inserted _ _ _ _ _ _ statement.insert_tile old new ready row
      _ (Ok count) Null row refl refl refl (search rules) h)
      (λ ready x h when.
      let kept = kept_in spare spare profile.version (seen old) x h in
      holds_tiles spare more profile.version (seen old) x h _ _ (insert x.content.tiles key bytes)
      (keeps_tile spare more (seen old) x.kept x.content kept _ key id bytes
      (puts parts.tiles (seen old 15) x.kept.tiles kept.tiles key id (Int (next_rowid (seen old 15)) ∷ row) when.1 refl
      (chosen_is_free (seen old 15) row (ready.rows 15))) when.0
      (λ z spared other. but_other spare id z (λ e. other (ap Some (sym e))) spared)
      (λ z named other. absurd (not_none named.1 when.1))));
}
