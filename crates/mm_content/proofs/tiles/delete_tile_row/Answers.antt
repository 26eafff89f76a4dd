use Rattle.std.proofs.Common.{◌≡◌, [], ◌∷◌, Ok, sym, ◌∙◌, rules}
use Rattle.std.specs.FinMap.{get, remove}
use Rattle.sqlite.specs.declared.types.Value.TheVariants.{Int, Text as Words}
use Rattle.sqlite.specs.Tree.{with_tree}
use Rattle.sqlite.specs.Held.{state}
use Rattle.sql_forms.specs.Tables.{without}
use Rattle.sql_forms.proofs.Deletes.{has_deleted}
use Rattle.mm_store.proofs.Deleting as statement
use Rattle.mm_store.proofs.Parts.{removes}
use Rattle.mm_store.proofs.Keys as parts
use Rattle.mm_store.proofs.Keys.{by_tile}
use Rattle.mm_blobs.specs.Entries.{spare_freed, without_tile}
use Rattle.mm_blobs.proofs.Keeping.{kept_in}
use Rattle.mm_blobs.proofs.Moving.{moves_run, seen}
use Rattle.mm_blobs.proofs.Naming.{keeps_no_tile, holds_tiles, freed_before, freed_at}
use Rattle.mm_definitions.specs.Places.{tile_at}
use Rattle.mm_content.proofs.tiles.delete_tile_row.Goals as goal

pub returns : goal.returns
returns g c = record {
  same = search rules;
  gone = λ profile spare stands.
      let old = state g.S.Store c.args.tx.now.conn.now in
      let new = state g.S.Store c.run.new.tx.conn.now in
      let a = c.args in
      let key = tile_at a.table.now a.place in
      let more = spare_freed stands spare in
      moves_run profile old new _ _ spare (λ db. with_tree db 15 (without (by_tile key) (db 15)))
      (λ x. get x.kept.tiles key ≡ stands) (without_tile key) more c.run.result c.run.ensures.run
      (λ count ready h. has_deleted _ _ _ _ _ statement.delete_tile old new ready
      (Words key.table ∷ Int key.zoom ∷ Int key.column ∷ Int key.row ∷ []) _ (search rules) (Ok count) h)
      (λ ready x h stood.
      let kept = kept_in spare spare profile.version (seen old) x h in
      holds_tiles spare more profile.version (seen old) x h _ _ (remove x.content.tiles key)
      (keeps_no_tile spare more (seen old) x.kept x.content kept _ key
      (removes parts.tiles (seen old 15) x.kept.tiles kept.tiles key) (freed_before stands spare)
      (λ z named. freed_at stands spare z (sym stood ∙ named.1 ∙ named.2))));
}
