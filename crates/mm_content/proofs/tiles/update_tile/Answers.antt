use Rattle.std.proofs.Common.{◌≡◌, Ok, Some, sym, ap, ◌∙◌, rules}
use Rattle.std.specs.FinMap.{get, insert}
use Rattle.sqlite.specs.Tree.{with_tree}
use Rattle.sqlite.specs.Held.{state}
use Rattle.sql_forms.specs.Tables.{with_changed}
use Rattle.sql_forms.proofs.Updates.{has_changed, updated}
use Rattle.mm_store.specs.Tables.{mm_tiles}
use Rattle.mm_definitions.proofs.Parts.{same_some}
use Rattle.mm_store.proofs.Updating as statement
use Rattle.mm_store.specs.Blobs.{bytes_at}
use Rattle.mm_store.specs.Rows.{tile_row}
use Rattle.mm_store.proofs.Changes.{tile_sets, tile_changed}
use Rattle.mm_store.proofs.Parts.{changes}
use Rattle.mm_store.proofs.Keys as parts
use Rattle.mm_store.proofs.Keys.{by_tile}
use Rattle.mm_blobs.specs.Entries.{with_tile}
use Rattle.mm_blobs.specs.Views.{spare_too, spare_but}
use Rattle.mm_blobs.proofs.Keeping.{kept_in, but_other, too_before, too_itself}
use Rattle.mm_blobs.proofs.Moving.{moves_run, seen}
use Rattle.mm_blobs.proofs.Naming.{keeps_tile, holds_tiles}
use Rattle.mm_definitions.specs.Places.{tile_at}
use Rattle.mm_content.proofs.tiles.update_tile.Goals as goal

pub returns : goal.returns
returns g c = record {
  same = search rules;
  named = λ profile spare bytes was.
      let old = state g.S.Store c.args.tx.now.conn.now in
      let new = state g.S.Store c.run.new.tx.conn.now in
      let a = c.args in
      let key = tile_at a.table.now a.place in
      let id = a.blob in
      let params = tile_row key id in
      let more = spare_too was (spare_but id spare) in
      moves_run profile old new _ _ spare
      (λ db. with_tree db 15 (with_changed (by_tile key) (updated mm_tiles tile_sets params) (db 15)))
      (λ x. (bytes_at x.kept.shelf id ≡ Some bytes) × (get x.kept.tiles key ≡ Some was)) (with_tile key id bytes) more
      c.run.result c.run.ensures.run (λ count ready h. has_changed _ _ _ _ _ _ statement.update_tile old new ready
      params _ (Ok count) (search rules) h)
      (λ ready x h when.
      let kept = kept_in spare spare profile.version (seen old) x h in
      holds_tiles spare more profile.version (seen old) x h _ _ (insert x.content.tiles key bytes)
      (keeps_tile spare more (seen old) x.kept x.content kept _ key id bytes
      (changes parts.tiles (seen old 15) x.kept.tiles kept.tiles key (updated mm_tiles tile_sets params) was id when.1
      (tile_changed key was id)) when.0
      (λ z spared other. too_before (spare_but id spare) was z
      (but_other spare id z (λ e. other (ap Some (sym e))) spared))
      (λ z named other. ap more (same_some (sym named.2 ∙ sym named.1 ∙ when.1))
      ∙ too_itself (spare_but id spare) was)));
}
