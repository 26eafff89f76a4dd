use Rattle.std.proofs.Common.{◌≡◌, [], ◌∷◌, ◌∙◌, sym, subst, rules}
use Rattle.std.specs.FinMap.{get}
use Rattle.sqlite.specs.declared.types.Value.TheVariants.{Int, Text as Words}
use Rattle.sqlite.specs.Held.{state}
use Rattle.sqlite.specs.Term.{col}
use Rattle.sql_forms.proofs.Keys.{columns_are}
use Rattle.sql_forms.proofs.Selects.{selects_one, shows}
use Rattle.mm_definitions.specs.Places.{tile_at}
use Rattle.mm_store.proofs.Selecting as statement
use Rattle.mm_store.specs.Blobs.{Told}
use Rattle.mm_store.specs.Kept.{tile_id, tile_with}
use Rattle.mm_store.specs.Rows.{tile_row}
use Rattle.mm_store.proofs.Keys as parts
use Rattle.mm_blobs.specs.Moves.{GivesNumber}
use Rattle.mm_blobs.proofs.Keeping.{kept_in}
use Rattle.mm_blobs.proofs.Moving.{looks, seen}
use Rattle.mm_blobs.proofs.Naming.{id_found, as_it_is}
use Rattle.mm_blobs.proofs.entries.blob_of_tile.Goals as goal

pub returns : goal.returns
returns g c = record {
  same = search rules;
  found = λ profile spare.
      let old = state g.S.Store c.args.tx.now.conn.now in
      let new = state g.S.Store c.first_number.new.tx.conn.now in
      let a = c.args in
      let key = tile_at a.table.now a.place in
      let params = Words key.table ∷ Int key.zoom ∷ Int key.column ∷ Int key.row ∷ [] in
      looks profile old new _ _ spare GivesNumber
      (λ x it. (get x.kept.tiles key ≡ it) × Told tile_id tile_with x.kept.shelf it (get x.content.tiles key))
      c.first_number.result c.first_number.ensures.asked (λ it first ready shown gives.
      let read = selects_one _ _ _ _ _ _ statement.blob_of_tile old new ready.schema_is params _ (search rules) first
      shown in (
        read.0,
        λ x h.
            let kept = kept_in spare spare profile.version (seen old) x h in
            let is : get x.kept.tiles key ≡ it = sym (as_it_is (get x.kept.tiles key))
            ∙ id_found parts.tiles (seen old 15) x.kept.tiles kept.tiles key (shows (col 1 5 ∷ []) params)
            (λ blob. blob) (λ r i is. columns_are r (tile_row key i) 4 is) it first gives read.1 in
            (is, subst (λ o. Told tile_id tile_with x.kept.shelf o (get x.content.tiles key)) is (kept.tiles_told key)),
      ));
}
