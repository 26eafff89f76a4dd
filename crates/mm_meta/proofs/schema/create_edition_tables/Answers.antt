use Rattle.std.proofs.Common.{rules}
use Rattle.mm_store.proofs.Creating as statement
use Rattle.mm_meta.proofs.Creating.{creates_one, creating_then}
use Rattle.mm_meta.proofs.schema.create_edition_tables.Goals as goal

pub returns : goal.returns
returns g c = record {
  same = search rules;
  made =
      let made_0 = creates_one _ _ _ _ _ _ statement.mm_map _ c.in_ok-run.ensures.run in
      let made_1 = creating_then _ _ _ _ _ _ _ _ made_0
      (creates_one _ _ _ _ _ _ statement.mm_editions _ c.in_ok-run-2.ensures.run) in
      creating_then _ _ _ _ _ _ _ _ made_1 (creates_one _ _ _ _ _ _ statement.mm_pieces _ c.run-3.ensures.run);
}
