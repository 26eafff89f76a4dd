use Rattle.std.proofs.Common.{◌≡◌, [], ◌∷◌, Option, rules}
use Rattle.sqlite.specs.declared.types.Value.TheVariants.{Int}
use Rattle.sqlite.specs.Order.{Row}
use Rattle.sqlite.specs.Held.{state}
use Rattle.sql_forms.proofs.Selects.{selects_one}
use Rattle.mm_store.proofs.Selecting as statement
use Rattle.mm_store.specs.Blobs.{bytes_at}
use Rattle.mm_blobs.specs.Moves.{ShowsBytes}
use Rattle.mm_blobs.proofs.Keeping.{kept_in}
use Rattle.mm_blobs.proofs.Moving.{looks, seen}
use Rattle.mm_blobs.proofs.Reading.{bytes_found}
use Rattle.mm_blobs.proofs.blobs.row_of_blob.Goals as goal

pub returns : goal.returns
returns g c = record {
  same = search rules;
  found = λ profile spare.
      let old = state g.S.Store c.args.tx.now.conn.now in
      let new = state g.S.Store c.first.new.tx.conn.now in
      let id = c.args.id in
      let params = Int id ∷ [] in
      looks profile old new _ _ spare (λ (it : Option Row) first. it ≡ first)
      (λ x row. ShowsBytes (bytes_at x.kept.shelf id) row) c.first.result c.first.ensures.asked
      (λ it first ready shown gives.
      let read = selects_one _ _ _ _ _ _ statement.bytes_of_blob old new ready.schema_is params _ (search rules) first
      shown in (
        read.0,
        λ x h. bytes_found (seen old 27) x.kept.shelf (kept_in spare spare profile.version (seen old) x h).blobs
            id params it first gives read.1,
      ));
}
