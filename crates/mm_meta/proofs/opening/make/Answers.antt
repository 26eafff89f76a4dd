use Rattle.std.proofs.Common.{rules}
use Rattle.sqlite.specs.Held.{state}
use Rattle.std.proofs.lemmas.Result.{err_from_is_err_and}
use Rattle.mm_definitions.specs.Bounds.{current}
use Rattle.mm_definitions.specs.Opening.{opening}
use Rattle.mm_meta.proofs.Making.{creating_makes, creating_gave_up, making_then, making_failed, general_free}
use Rattle.mm_store.proofs.Quiet.{quiet_then}
use Rattle.mm_meta.proofs.Creating.{none_again_then}
use Rattle.mm_meta.proofs.opening.make.Goals as goal

pub returns-in_err-create_tables-clause-makes : goal.returns-in_err-create_tables-clause-makes
returns-in_err-create_tables-clause-makes g c = record {
  same = search rules;
  made =
      let p = err_from_is_err_and c.from_residual.result c.from_residual.ensures.1 in
      rw (p.1, p.2) (creating_gave_up current _ _ _ _ opening _ c.in_err-create_tables.ensures.makes.made);
}

pub returns-in_err-put_systems-clause-makes : goal.returns-in_err-put_systems-clause-makes
returns-in_err-put_systems-clause-makes g c = record {
  same = search rules;
  made =
      let p = err_from_is_err_and c.from_residual-in_err-put_systems.result
      c.from_residual-in_err-put_systems.ensures.1 in
      rw (p.1, p.2) (making_failed current _ _ _ _ opening _
      (creating_makes current _ _ _ _ _ _ _ _ c.in_ok-create_tables.ensures.makes.made
      c.in_err-put_systems.ensures.made));
}

pub returns-clause-makes : goal.returns-clause-makes
returns-clause-makes g c = record {
  same = search rules;
  made =
      let made = creating_makes current _ _ _ _ _ _ _ _ c.in_ok-create_tables.ensures.makes.made
      c.in_ok-put_systems.ensures.made in
      making_then current _ made c.insert_related_row.ensures general_free;
}

pub returns-in_err-create_tables-clause-again : goal.returns-in_err-create_tables-clause-again
returns-in_err-create_tables-clause-again g c clean inside has = let p = err_from_is_err_and c.from_residual.result
    c.from_residual.ensures.1 in rw p.1 tt

pub returns-in_err-put_systems-clause-again : goal.returns-in_err-put_systems-clause-again
returns-in_err-put_systems-clause-again g c clean inside has = let p =
    err_from_is_err_and c.from_residual-in_err-put_systems.result c.from_residual-in_err-put_systems.ensures.1 in rw p.1
    tt

pub returns-clause-again : goal.returns-clause-again
returns-clause-again g c =
    let rest = quiet_then _ _ _ c.in_ok-put_systems.ensures.made.survives c.insert_related_row.ensures.survives in
    none_again_then (state g.S.Store c.args.tx.now.conn.now) _ _ _ c.in_ok-create_tables.ensures.again rest
