use Rattle.std.proofs.Common.{rules}
use Rattle.sqlite.specs.Held.{state}
use Rattle.sql_forms.proofs.States.{query_all_keeps}
use Rattle.mm_store.proofs.Asking.{kept_on, told_fault}
use Rattle.mm_store.proofs.statements.all.Goals as goal

pub returns-in-Ok : goal.returns-in-Ok
returns-in-Ok g c = record {
  same = search rules;
  listed =
      let old = state g.S.Store c.args.tx.now.conn.now in
      let new = state g.S.Store c.query_all-shown.new.self.conn.now in
      record {
        survives = c.query_all-shown.ensures.survives;
        on = λ clean inside ground. kept_on old new
            (query_all_keeps old new (λ rows. rows.items) inside _ _ c.query_all-shown.result
            (c.query_all-shown.ensures.ok clean) (c.query_all-shown.ensures.err clean)) ground;
        lists = λ clean. c.in-Ok.ensures.ok clean;
        faults = tt;
      };
}

pub returns-in-Err : goal.returns-in-Err
returns-in-Err g c = record {
  same = search rules;
  listed =
      let old = state g.S.Store c.args.tx.now.conn.now in
      let new = state g.S.Store c.query_all-shown.new.self.conn.now in
      record {
        survives = c.query_all-shown.ensures.survives;
        on = λ clean inside ground. kept_on old new
            (query_all_keeps old new (λ rows. rows.items) inside _ _ c.query_all-shown.result
            (c.query_all-shown.ensures.ok clean) (c.query_all-shown.ensures.err clean)) ground;
        lists = λ clean. tt;
        faults = told_fault c.in-Err.error c.fault_of.result c.fault_of.ensures;
      };
}
