use Rattle.std.proofs.Common.{refl, rules}
use Rattle.mm_store.proofs.Creating as statement
use Rattle.mm_meta.proofs.Creating.{creates_one, indexes_one, creating_then}
use Rattle.mm_meta.proofs.schema.create_blob_table.Goals as goal

pub returns : goal.returns
returns g c = record {
  same = search rules;
  made =
      let made_0 = creates_one _ _ _ _ _ _ statement.mm_blobs _ c.in_ok-run.ensures.run in
      let made_1 = creating_then _ _ _ _ _ _ _ _ made_0
      (indexes_one _ _ _ _ _ _ _ _ statement.mm_blobs_digest refl _ c.in_ok-run-2.ensures.run) in
      let made_2 = creating_then _ _ _ _ _ _ _ _ made_1
      (indexes_one _ _ _ _ _ _ _ _ statement.mm_tiles_blob refl _ c.in_ok-run-3.ensures.run) in
      let made_3 = creating_then _ _ _ _ _ _ _ _ made_2
      (indexes_one _ _ _ _ _ _ _ _ statement.mm_media_blob refl _ c.in_ok-run-4.ensures.run) in
      creating_then _ _ _ _ _ _ _ _ made_3
      (indexes_one _ _ _ _ _ _ _ _ statement.mm_pieces_blob refl _ c.run-5.ensures.run);
}
