use Rattle.std.proofs.Common.{[], ◌∷◌, rules}
use Rattle.sqlite.specs.declared.types.Value.TheVariants.{Text as Words, Blob as Bytes}
use Rattle.sqlite.specs.Held.{state}
use Rattle.sql_forms.proofs.Selects.{selects_one}
use Rattle.mm_blobs.specs.Views.{IsFound}
use Rattle.mm_store.proofs.Selecting as statement
use Rattle.mm_blobs.specs.Moves.{GivesNumber}
use Rattle.mm_blobs.proofs.Moving.{looks, seen}
use Rattle.mm_blobs.proofs.Keeping.{found_blob, kept_in}
use Rattle.mm_blobs.proofs.blobs.find_blob.Goals as goal

pub returns : goal.returns
returns g c = record {
  same = search rules;
  found = λ profile spare.
      let old = state g.S.Store c.args.tx.now.conn.now in
      let new = state g.S.Store c.first_number.new.tx.conn.now in
      let digest = c.args.digest.now in
      let bytes = c.args.bytes.now in
      looks profile old new _ _ spare GivesNumber (λ x it. IsFound x.kept.shelf bytes it) c.first_number.result
      c.first_number.ensures.asked (λ it first ready shown gives.
      let read = selects_one _ _ _ _ _ _ statement.blob_of_bytes old new ready.schema_is
      (Words digest ∷ Bytes bytes ∷ []) _ (search rules) first shown in (
        read.0,
        λ x h. found_blob spare (seen old) x.kept x.content (kept_in spare spare profile.version (seen old) x h)
            digest bytes c.requires it first gives read.1,
      ));
}
