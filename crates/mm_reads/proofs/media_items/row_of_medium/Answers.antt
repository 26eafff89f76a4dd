use Rattle.std.proofs.Common.{◌≡◌, [], ◌∷◌, Option, rules}
use Rattle.std.specs.FinMap.{get}
use Rattle.sqlite.specs.declared.types.Value.TheVariants.{Int, Text as Words}
use Rattle.sqlite.specs.Order.{Row}
use Rattle.sqlite.specs.Held.{state}
use Rattle.sql_forms.proofs.Selects.{selects_one}
use Rattle.mm_definitions.specs.Keys.{item}
use Rattle.mm_store.proofs.Selecting as statement
use Rattle.mm_store.specs.Blobs.{Told}
use Rattle.mm_store.specs.Kept.{medium_id, medium_with}
use Rattle.mm_blobs.proofs.Keeping.{kept_in}
use Rattle.mm_blobs.proofs.Moving.{looks, seen}
use Rattle.mm_reads.specs.Told.{IsMediumRow}
use Rattle.mm_reads.proofs.Found.{medium_found}
use Rattle.mm_reads.proofs.media_items.row_of_medium.Goals as goal

pub returns : goal.returns
returns g c = record {
  same = search rules;
  found = λ profile spare.
      let old = state g.S.Store c.args.tx.now.conn.now in
      let new = state g.S.Store c.first.new.tx.conn.now in
      let key = item c.args.table.now c.args.id in
      let params = Words key.table ∷ Int key.id ∷ [] in
      looks profile old new _ _ spare (λ (it : Option Row) first. it ≡ first)
      (λ x row. IsMediumRow (get x.kept.media key) row × Told medium_id medium_with x.kept.shelf (get x.kept.media key)
      (get x.content.media key)) c.first.result c.first.ensures.asked (λ it first ready shown gives.
      let read = selects_one _ _ _ _ _ _ statement.medium_values old new ready.schema_is params _ (search rules) first
      shown in (
        read.0,
        λ x h. let kept = kept_in spare spare profile.version (seen old) x h in
            (medium_found (seen old 19) x.kept.media kept.media key params it first gives read.1, kept.media_told key),
      ));
}
