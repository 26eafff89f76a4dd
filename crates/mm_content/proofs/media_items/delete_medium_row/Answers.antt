use Rattle.std.proofs.Common.{◌≡◌, [], ◌∷◌, Ok, option_map, sym, ap, ◌∙◌, rules}
use Rattle.std.specs.FinMap.{get, remove}
use Rattle.sqlite.specs.declared.types.Value.TheVariants.{Int, Text as Words}
use Rattle.sqlite.specs.Tree.{with_tree}
use Rattle.sqlite.specs.Held.{state}
use Rattle.sql_forms.specs.Tables.{without}
use Rattle.sql_forms.proofs.Deletes.{has_deleted}
use Rattle.mm_definitions.specs.Keys.{item}
use Rattle.mm_store.proofs.Deleting as statement
use Rattle.mm_store.specs.Rows.{MediumRow}
use Rattle.mm_store.proofs.Parts.{removes}
use Rattle.mm_store.proofs.Keys as parts
use Rattle.mm_store.proofs.Keys.{by_item}
use Rattle.mm_blobs.specs.Entries.{spare_freed, without_medium}
use Rattle.mm_blobs.proofs.Keeping.{kept_in}
use Rattle.mm_blobs.proofs.Moving.{moves_run, seen}
use Rattle.mm_blobs.proofs.Naming.{keeps_no_medium, holds_media, freed_before, freed_at}
use Rattle.mm_content.proofs.media_items.delete_medium_row.Goals as goal

pub returns : goal.returns
returns g c = record {
  same = search rules;
  gone = λ profile spare stands.
      let old = state g.S.Store c.args.tx.now.conn.now in
      let new = state g.S.Store c.run.new.tx.conn.now in
      let a = c.args in
      let key = item a.table.now a.id in
      let more = spare_freed stands spare in
      moves_run profile old new _ _ spare (λ db. with_tree db 19 (without (by_item key) (db 19)))
      (λ x. option_map (λ (m : MediumRow). m.blob) (get x.kept.media key) ≡ stands) (without_medium key) more
      c.run.result c.run.ensures.run
      (λ count ready h. has_deleted _ _ _ _ _ statement.delete_medium old new ready (Words key.table ∷ Int key.id ∷ [])
      _ (search rules) (Ok count) h)
      (λ ready x h stood.
      let kept = kept_in spare spare profile.version (seen old) x h in
      holds_media spare more profile.version (seen old) x h _ _ (remove x.content.media key)
      (keeps_no_medium spare more (seen old) x.kept x.content kept _ key
      (removes parts.media (seen old 19) x.kept.media kept.media key) (freed_before stands spare)
      (λ z named. freed_at stands spare z (sym stood ∙ ap (option_map (λ (m : MediumRow). m.blob)) named.1
      ∙ named.2))));
}
