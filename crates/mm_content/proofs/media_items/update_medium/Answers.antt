use Rattle.std.proofs.Common.{◌≡◌, Ok, Some, option_map, sym, ap, ◌∙◌, rules}
use Rattle.std.specs.FinMap.{get, insert}
use Rattle.sqlite.specs.Tree.{with_tree}
use Rattle.sqlite.specs.Held.{state}
use Rattle.sql_forms.specs.Tables.{with_changed}
use Rattle.sql_forms.proofs.Updates.{has_changed, updated}
use Rattle.mm_store.specs.Tables.{mm_media}
use Rattle.mm_definitions.specs.Keys.{item}
use Rattle.mm_definitions.proofs.Parts.{same_some}
use Rattle.mm_store.proofs.Updating as statement
use Rattle.mm_store.specs.Blobs.{bytes_at}
use Rattle.mm_store.specs.Kept.{medium_with}
use Rattle.mm_store.specs.Rows.{MediumRow, medium_row}
use Rattle.mm_store.proofs.Changes.{medium_sets, medium_changed}
use Rattle.mm_store.proofs.Parts.{changes}
use Rattle.mm_store.proofs.Keys as parts
use Rattle.mm_store.proofs.Keys.{by_item}
use Rattle.mm_blobs.specs.Entries.{medium_of, with_medium}
use Rattle.mm_blobs.specs.Views.{spare_too, spare_but}
use Rattle.mm_blobs.proofs.Keeping.{kept_in, but_other, too_before, too_itself}
use Rattle.mm_blobs.proofs.Moving.{moves_run, seen}
use Rattle.mm_blobs.proofs.Naming.{keeps_medium, holds_media}
use Rattle.mm_content.proofs.Writing.{stands_at}
use Rattle.mm_content.proofs.media_items.update_medium.Goals as goal

pub returns : goal.returns
returns g c = record {
  same = search rules;
  named = λ profile spare bytes was.
      let old = state g.S.Store c.args.tx.now.conn.now in
      let new = state g.S.Store c.run.new.tx.conn.now in
      let a = c.args in
      let key = item a.table.now a.id in
      let id = a.blob in
      let value = medium_of id a.content_type.now in
      let params = medium_row key value in
      let more = spare_too was (spare_but id spare) in
      moves_run profile old new _ _ spare
      (λ db. with_tree db 19 (with_changed (by_item key) (updated mm_media medium_sets params) (db 19)))
      (λ x. (bytes_at x.kept.shelf id ≡ Some bytes)
      × (option_map (λ (m : MediumRow). m.blob) (get x.kept.media key) ≡ Some was)) (with_medium key value bytes) more
      c.run.result c.run.ensures.run (λ count ready h. has_changed _ _ _ _ _ _ statement.update_medium old new ready
      params _ (Ok count) (search rules) h)
      (λ ready x h when.
      let kept = kept_in spare spare profile.version (seen old) x h in
      let at = stands_at (get x.kept.media key) was when.1 in
      holds_media spare more profile.version (seen old) x h _ _ (insert x.content.media key (medium_with value bytes))
      (keeps_medium spare more (seen old) x.kept x.content kept _ key value bytes
      (changes parts.media (seen old 19) x.kept.media kept.media key (updated mm_media medium_sets params) at.0 value
      at.1 (medium_changed key at.0 value)) when.0
      (λ z spared other. too_before (spare_but id spare) was z
      (but_other spare id z (λ e. other (ap Some (sym e))) spared))
      (λ z named other. ap more (same_some (sym named.2 ∙ ap (option_map (λ (m : MediumRow). m.blob)) (sym named.1)
      ∙ when.1)) ∙ too_itself (spare_but id spare) was)));
}
