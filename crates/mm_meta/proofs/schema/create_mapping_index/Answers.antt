use Rattle.std.proofs.Common.{refl, rules}
use Rattle.mm_store.proofs.Creating as statement
use Rattle.mm_meta.proofs.Creating.{indexes_one}
use Rattle.mm_meta.proofs.schema.create_mapping_index.Goals as goal

pub returns : goal.returns
returns g c = record {
  same = search rules;
  made = indexes_one _ _ _ _ _ _ _ _ statement.mm_map_related refl _ c.run.ensures.run;
}
