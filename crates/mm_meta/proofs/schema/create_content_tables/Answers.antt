use Rattle.std.proofs.Common.{rules}
use Rattle.mm_store.proofs.Creating as statement
use Rattle.mm_meta.proofs.Creating.{creates_one, creating_then}
use Rattle.mm_meta.proofs.schema.create_content_tables.Goals as goal

pub returns : goal.returns
returns g c = record {
  same = search rules;
  made =
      let made_0 = creates_one _ _ _ _ _ _ statement.mm_tables _ c.in_ok-run.ensures.run in
      let made_1 = creating_then _ _ _ _ _ _ _ _ made_0
      (creates_one _ _ _ _ _ _ statement.mm_tiles _ c.in_ok-run-2.ensures.run) in
      let made_2 = creating_then _ _ _ _ _ _ _ _ made_1
      (creates_one _ _ _ _ _ _ statement.mm_rows _ c.in_ok-run-3.ensures.run) in
      creating_then _ _ _ _ _ _ _ _ made_2 (creates_one _ _ _ _ _ _ statement.mm_media _ c.run-4.ensures.run);
}
