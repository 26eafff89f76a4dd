use Rattle.std.proofs.Common.{refl, rules}
use Rattle.sqlite.specs.Held.{state}
use Rattle.sql_forms.proofs.States.{query_all_keeps}
use Rattle.mm_store.proofs.Asking.{kept_on, told_fault}
use Rattle.mm_store.proofs.statements.first.Goals as goal

pub returns-in-Ok : goal.returns-in-Ok
returns-in-Ok g c = record {
  same = search rules;
  asked =
      let old = state g.S.Store c.args.tx.now.conn.now in
      let new = state g.S.Store c.query_all.new.self.conn.now in
      record {
        survives = c.query_all.ensures.survives;
        on = λ clean inside ground. kept_on old new
            (query_all_keeps old new (λ rows. rows.items) inside _ _ c.query_all.result (c.query_all.ensures.ok clean)
            (c.query_all.ensures.err clean)) ground;
        gives = λ clean. (c.first_of.result, (c.in-Ok.rows.items, c.in-Ok.ensures.ok clean, c.first_of.ensures), refl);
        faults = tt;
      };
  failed = λ clean. tt;
}

pub returns-in-Err : goal.returns-in-Err
returns-in-Err g c = record {
  same = search rules;
  asked =
      let old = state g.S.Store c.args.tx.now.conn.now in
      let new = state g.S.Store c.query_all.new.self.conn.now in
      record {
        survives = c.query_all.ensures.survives;
        on = λ clean inside ground. kept_on old new
            (query_all_keeps old new (λ rows. rows.items) inside _ _ c.query_all.result (c.query_all.ensures.ok clean)
            (c.query_all.ensures.err clean)) ground;
        gives = λ clean. tt;
        faults = told_fault c.in-Err.error c.fault_of.result c.fault_of.ensures;
      };
  failed = search rules;
}
