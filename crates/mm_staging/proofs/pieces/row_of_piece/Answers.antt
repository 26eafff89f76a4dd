use Rattle.std.proofs.Common.{◌≡◌, [], ◌∷◌, Option, rules}
use Rattle.std.specs.FinMap.{get}
use Rattle.sqlite.specs.declared.types.Value.TheVariants.{Int, Text as Words}
use Rattle.sqlite.specs.Order.{Row}
use Rattle.sqlite.specs.Held.{state}
use Rattle.sql_forms.proofs.Selects.{selects_one}
use Rattle.mm_definitions.specs.Keys.{piece}
use Rattle.mm_store.proofs.Selecting as statement
use Rattle.mm_store.specs.Blobs.{Told}
use Rattle.mm_store.specs.Kept.{piece_id, piece_with}
use Rattle.mm_blobs.proofs.Keeping.{kept_in}
use Rattle.mm_blobs.proofs.Moving.{looks, seen}
use Rattle.mm_staging.specs.Kept.{IsPieceRow}
use Rattle.mm_staging.proofs.Rows.{found_row}
use Rattle.mm_staging.proofs.pieces.row_of_piece.Goals as goal

pub returns : goal.returns
returns g c = record {
  same = search rules;
  found = λ profile spare.
      let old = state g.S.Store c.args.tx.now.conn.now in
      let new = state g.S.Store c.first.new.tx.conn.now in
      let key = piece c.args.edition.now c.args.number in
      let params = Words key.edition ∷ Int key.number ∷ [] in
      looks profile old new _ _ spare (λ (it : Option Row) first. it ≡ first)
      (λ x row. IsPieceRow (get x.kept.pieces key) row × Told piece_id piece_with x.kept.shelf (get x.kept.pieces key)
      (get x.content.pieces key)) c.first.result c.first.ensures.asked (λ it first ready shown gives.
      let read = selects_one _ _ _ _ _ _ statement.piece_values old new ready.schema_is params _ (search rules) first
      shown in (
        read.0,
        λ x h. let kept = kept_in spare spare profile.version (seen old) x h in
            (found_row (seen old 25) x.kept.pieces kept.pieces key params it first gives read.1, kept.pieces_told key),
      ));
}
