use Rattle.std.proofs.Common.{rules}
use Rattle.sqlite.specs.Held.{state}
use Rattle.mm_store.proofs.Quiet.{quiet_then}
use Rattle.mm_meta.proofs.Creating.{creating_then, none_again_then}
use Rattle.mm_meta.proofs.schema.create_tables.Goals as goal

pub returns-clause-makes : goal.returns-clause-makes
returns-clause-makes g c = record {
  same = search rules;
  made =
      let made_0 = c.in_ok-create_pyramid_tables.ensures.makes.made in
      let made_1 = creating_then _ _ _ _ _ _ _ _ made_0 c.in_ok-create_further_tables.ensures.made in
      let made_2 = creating_then _ _ _ _ _ _ _ _ made_1 c.in_ok-create_content_tables.ensures.made in
      let made_3 = creating_then _ _ _ _ _ _ _ _ made_2 c.in_ok-create_edition_tables.ensures.made in
      let made_4 = creating_then _ _ _ _ _ _ _ _ made_3 c.in_ok-create_blob_table.ensures.made in
      creating_then _ _ _ _ _ _ _ _ made_4 c.create_mapping_index.ensures.made;
}

pub returns-clause-again : goal.returns-clause-again
returns-clause-again g c =
    let last = quiet_then _ _ _ c.in_ok-create_blob_table.ensures.made.survives
    c.create_mapping_index.ensures.made.survives in
    let later = quiet_then _ _ _ c.in_ok-create_content_tables.ensures.made.survives
    (quiet_then _ _ _ c.in_ok-create_edition_tables.ensures.made.survives last) in
    none_again_then (state g.S.Store c.args.tx.now.conn.now) _ _ _ c.in_ok-create_pyramid_tables.ensures.again
    (quiet_then _ _ _ c.in_ok-create_further_tables.ensures.made.survives later)
