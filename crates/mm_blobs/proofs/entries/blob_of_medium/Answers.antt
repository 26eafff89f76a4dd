use Rattle.std.proofs.Common.{◌≡◌, [], ◌∷◌, option_map, rules}
use Rattle.std.specs.FinMap.{get}
use Rattle.sqlite.specs.declared.types.Value.TheVariants.{Int, Text as Words}
use Rattle.sqlite.specs.Held.{state}
use Rattle.sqlite.specs.Term.{col}
use Rattle.sql_forms.proofs.Keys.{columns_are}
use Rattle.sql_forms.proofs.Selects.{selects_one, shows}
use Rattle.mm_definitions.specs.Keys.{item}
use Rattle.mm_store.specs.Rows.{MediumRow, medium_row}
use Rattle.mm_store.proofs.Keys as parts
use Rattle.mm_blobs.specs.Moves.{GivesNumber}
use Rattle.mm_blobs.proofs.Keeping.{kept_in}
use Rattle.mm_blobs.proofs.Moving.{looks, seen}
use Rattle.mm_blobs.proofs.Naming.{id_found}
use Rattle.mm_blobs.proofs.Selecting as statement
use Rattle.mm_blobs.proofs.entries.blob_of_medium.Goals as goal

pub returns : goal.returns
returns g c = record {
  same = search rules;
  found = λ profile spare.
      let old = state g.S.Store c.args.tx.now.conn.now in
      let new = state g.S.Store c.first_number.new.tx.conn.now in
      let a = c.args in
      let key = item a.table.now a.id in
      let params = Words key.table ∷ Int key.id ∷ [] in
      looks profile old new _ _ spare GivesNumber (λ x it. option_map (λ (m : MediumRow). m.blob) (get x.kept.media key)
      ≡ it) c.first_number.result c.first_number.ensures.asked (λ it first ready shown gives.
      let read = selects_one _ _ _ _ _ _ statement.blob_of_medium old new ready.schema_is params _ (search rules) first
      shown in (
        read.0,
        λ x h. id_found parts.media (seen old 19) x.kept.media
            (kept_in spare spare profile.version (seen old) x h).media key (shows (col 1 3 ∷ []) params)
            (λ (m : MediumRow). m.blob) (λ r i is. columns_are r (medium_row key i) 2 is) it first gives read.1,
      ));
}
