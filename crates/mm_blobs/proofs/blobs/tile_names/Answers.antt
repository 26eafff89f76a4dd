use Rattle.std.proofs.Common.{◌≡◌, [], ◌∷◌, ◌∙◌, sym, rules, is_some}
use Rattle.sqlite.specs.declared.types.Value.TheVariants.{Int}
use Rattle.sqlite.specs.Held.{state}
use Rattle.sql_forms.proofs.Keys.{columns_are}
use Rattle.sql_forms.proofs.Selects.{selects_any}
use Rattle.mm_store.proofs.Selecting as statement
use Rattle.mm_store.specs.Blobs.{NamesBlob}
use Rattle.mm_store.specs.Kept.{tile_id}
use Rattle.mm_store.specs.Rows.{tile_row}
use Rattle.mm_blobs.specs.Views.{TellsWhether}
use Rattle.mm_blobs.proofs.Moving.{looks, seen}
use Rattle.mm_blobs.proofs.Keeping.{kept_in, told_names, at_id, hits_id, only_id}
use Rattle.mm_blobs.proofs.blobs.tile_names.Goals as goal

pub returns : goal.returns
returns g c = record {
  same = search rules;
  found = λ profile spare.
      let old = state g.S.Store c.args.tx.now.conn.now in
      let new = state g.S.Store c.exists.new.tx.conn.now in
      let id = c.args.id in
      looks profile old new _ _ spare (λ it first. it ≡ is_some first)
      (λ x it. TellsWhether (NamesBlob tile_id x.kept.tiles id) it) c.exists.result c.exists.ensures.asked
      (λ it first ready shown gives.
      let read = selects_any _ _ _ _ _ _ statement.tile_of_blob old new ready.schema_is (Int id ∷ []) _ (search rules)
      first shown in (
        read.0,
        λ x h. told_names tile_id tile_row (seen old 15) x.kept.tiles
            (kept_in spare spare profile.version (seen old) x h).tiles id (at_id 5 id)
            (λ r k i is. hits_id 5 id r (tile_id i) (columns_are r (tile_row k i) 4 is))
            (λ r k i is. only_id 5 id r (tile_id i) (columns_are r (tile_row k i) 4 is)) it (sym (gives ∙ read.1)),
      ));
}
