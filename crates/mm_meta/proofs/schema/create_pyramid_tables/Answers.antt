use Rattle.std.proofs.Common.{rules}
use Rattle.sqlite.specs.Held.{state}
use Rattle.mm_store.proofs.Quiet.{quiet_then}
use Rattle.mm_store.proofs.Creating as statement
use Rattle.mm_meta.proofs.Creating.{creates_one, creating_then, none_again, none_again_then}
use Rattle.mm_meta.proofs.schema.create_pyramid_tables.Goals as goal

pub returns-clause-makes : goal.returns-clause-makes
returns-clause-makes g c = record {
  same = search rules;
  made =
      let made_0 = creates_one _ _ _ _ _ _ statement.gpkg_spatial_ref_sys _ c.in_ok-run.ensures.run in
      let made_1 = creating_then _ _ _ _ _ _ _ _ made_0
      (creates_one _ _ _ _ _ _ statement.gpkg_contents _ c.in_ok-run-2.ensures.run) in
      let made_2 = creating_then _ _ _ _ _ _ _ _ made_1
      (creates_one _ _ _ _ _ _ statement.gpkg_tile_matrix_set _ c.in_ok-run-3.ensures.run) in
      creating_then _ _ _ _ _ _ _ _ made_2 (creates_one _ _ _ _ _ _ statement.gpkg_tile_matrix _ c.run-4.ensures.run);
}

pub returns-clause-again : goal.returns-clause-again
returns-clause-again g c =
    let rest = quiet_then _ _ _ c.in_ok-run-2.ensures.run.survives
    (quiet_then _ _ _ c.in_ok-run-3.ensures.run.survives c.run-4.ensures.run.survives) in
    none_again_then (state g.S.Store c.args.tx.now.conn.now) _ _ _ (none_again _ _ _ c.in_ok-run.ensures.run) rest
