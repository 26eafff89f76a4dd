use Rattle.std.proofs.Common.{◌∷◌, [], ap, ◌∙◌, rules}
use Rattle.sqlite.specs.declared.types.Value.TheVariants.{Text as Words}
use Rattle.sqlite.specs.Held.{state}
use Rattle.sqlite.specs.Term.{col}
use Rattle.sql_forms.specs.Forms.{equals}
use Rattle.sql_forms.specs.Tables.{passes}
use Rattle.sql_forms.proofs.Keys.{columns_are}
use Rattle.sql_forms.proofs.Selects.{selects_all, shows}
use Rattle.mm_definitions.specs.Effects.{is_other}
use Rattle.mm_store.proofs.Selecting as statement
use Rattle.mm_store.specs.Kept.{medium_id}
use Rattle.mm_store.specs.Removals.{Freed}
use Rattle.mm_store.specs.Rows.{maybe, medium_row}
use Rattle.mm_blobs.specs.Views.{ListsEach}
use Rattle.mm_blobs.proofs.Keeping.{kept_in}
use Rattle.mm_blobs.proofs.Moving.{lists, seen}
use Rattle.mm_blobs.proofs.Listing.{lists_freed}
use Rattle.mm_layout.proofs.Freeing.{hits_name}
use Rattle.mm_layout.proofs.tables.blobs_of_media.Goals as goal

pub returns : goal.returns
returns g c = record {
  same = search rules;
  found = λ profile spare.
      let old = state g.S.Store c.args.tx.now.conn.now in
      let new = state g.S.Store c.all.new.tx.conn.now in
      let table = c.args.table.now in
      lists profile old new _ _ spare (λ rows. rows.items)
      (λ x rows. ListsEach rows.items (Freed medium_id x.kept.media (λ k. is_other table k.table))) c.all.result
      c.all.ensures.listed (λ rows ready shown.
      let read = selects_all _ _ _ _ _ _ statement.blobs_of_media old new ready.schema_is (Words table ∷ []) _
      (search rules) rows.items shown in (
        read.1,
        λ x h. lists_freed medium_id medium_row (seen old 19) x.kept.media
            (kept_in spare spare profile.version (seen old) x h).media (λ k. is_other table k.table)
            (passes (equals 1 0 ∷ []) (Words table ∷ [])) (shows (col 1 3 ∷ []) (Words table ∷ []))
            (λ r k i z is gone named. hits_name table r k.table _ is gone)
            (λ r k i z is named. columns_are r (medium_row k i) 2 is ∙ ap maybe named) rows.items read.0,
      ));
}
