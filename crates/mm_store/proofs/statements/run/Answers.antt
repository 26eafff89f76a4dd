use Rattle.std.proofs.Common.{Ok, Err, rules}
use Rattle.sqlite.specs.Held.{state}
use Rattle.sql_forms.proofs.States.{inside_keeps}
use Rattle.mm_store.proofs.Asking.{kept_on, told_fault}
use Rattle.mm_store.proofs.statements.run.Goals as goal

pub returns-in-Ok : goal.returns-in-Ok
returns-in-Ok g c = record {
  same = search rules;
  run = record {
    survives = c.execute.ensures.survives;
    on = λ clean inside ground. kept_on _ (state g.S.Store c.execute.new.self.conn.now)
        (inside_keeps _ (state g.S.Store c.execute.new.self.conn.now) _ _ (Ok c.in-Ok.field-0)
        (c.in-Ok.ensures.runs clean inside)) ground;
    ran = λ clean inside. (c.in-Ok.field-0, c.in-Ok.ensures.runs clean inside);
    failed = λ clean inside. tt;
    faults = tt;
  };
}

pub returns-in-Err : goal.returns-in-Err
returns-in-Err g c = record {
  same = search rules;
  run = record {
    survives = c.execute.ensures.survives;
    on = λ clean inside ground. kept_on _ (state g.S.Store c.execute.new.self.conn.now)
        (inside_keeps _ (state g.S.Store c.execute.new.self.conn.now) _ _ (Err c.in-Err.error)
        (c.in-Err.ensures.runs clean inside)) ground;
    ran = λ clean inside. tt;
    failed = λ clean inside. (c.in-Err.error, c.fault_of.ensures, c.in-Err.ensures.runs clean inside);
    faults = told_fault c.in-Err.error c.fault_of.result c.fault_of.ensures;
  };
}
