use Rattle.std.proofs.Common.{◌∷◌, [], ap, ◌∙◌, rules}
use Rattle.sqlite.specs.declared.types.Value.TheVariants.{Text as Words}
use Rattle.sqlite.specs.Held.{state}
use Rattle.sqlite.specs.Term.{col, op1}
use Rattle.sql_forms.specs.UnaryOp.TheVariants.{Not}
use Rattle.sql_forms.specs.Forms.{equals, is_absent}
use Rattle.sql_forms.specs.Tables.{passes}
use Rattle.sql_forms.proofs.Keys.{columns_are}
use Rattle.sql_forms.proofs.Selects.{selects_all, shows}
use Rattle.mm_definitions.specs.Effects.{is_other}
use Rattle.mm_store.specs.Kept.{piece_id}
use Rattle.mm_store.specs.Removals.{FreedByEdition}
use Rattle.mm_store.specs.Rows.{maybe, staged_row}
use Rattle.mm_blobs.specs.Views.{ListsEach}
use Rattle.mm_blobs.proofs.Keeping.{kept_in}
use Rattle.mm_blobs.proofs.Moving.{lists, seen}
use Rattle.mm_blobs.proofs.Listing.{lists_freed}
use Rattle.mm_staging.proofs.Freeing.{hits_piece}
use Rattle.mm_staging.proofs.Selecting as statement
use Rattle.mm_staging.proofs.pieces.blobs_of_pieces.Goals as goal

pub returns : goal.returns
returns g c = record {
  same = search rules;
  found = λ profile spare.
      let old = state g.S.Store c.args.tx.now.conn.now in
      let new = state g.S.Store c.all.new.tx.conn.now in
      let edition = c.args.edition.now in
      lists profile old new _ _ spare (λ rows. rows.items)
      (λ x rows. ListsEach rows.items (FreedByEdition edition x.kept)) c.all.result c.all.ensures.listed
      (λ rows ready shown.
      let read = selects_all _ _ _ _ _ _ statement.blobs_of_pieces old new ready.schema_is (Words edition ∷ []) _
      (search rules) rows.items shown in (
        read.1,
        λ x h. lists_freed piece_id staged_row (seen old 25) x.kept.pieces
            (kept_in spare spare profile.version (seen old) x h).pieces (λ k. is_other edition k.edition)
            (passes (equals 1 0 ∷ op1 Not (is_absent 14) ∷ []) (Words edition ∷ []))
            (shows (col 1 14 ∷ []) (Words edition ∷ []))
            (λ r k i z is gone named. hits_piece edition r k i z is gone named)
            (λ r k i z is named. columns_are r (staged_row k i) 13 is ∙ ap maybe named) rows.items read.0,
      ));
}
