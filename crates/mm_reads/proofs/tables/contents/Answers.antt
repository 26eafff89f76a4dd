use Rattle.std.proofs.Common.{Bool, Ok, Err, Result, refl, sym, subst}
use Rattle.std.proofs.lemmas.Result.{err_from_is_err_and}
use Rattle.sqlite.specs.Order.{Row}
use Rattle.sqlite.specs.Held.{state}
use Rattle.mm_definitions.specs.declared.answers.Fault.{Fault}
use Rattle.mm_reads.specs.declared.tables.Gathered.{Gathered}
use Rattle.mm_reads.specs.Contents.{GathersTables}
use Rattle.mm_reads.proofs.GatheredRead.{Found}
use Rattle.mm_reads.proofs.Reading.{read_by_walk}
use Rattle.mm_reads.proofs.tables.contents.Goals as goal

abbrev takes : Gathered → Row → Gathered → Result Bool Fault → Type 0
takes old row new result = GathersTables old.entries.items row new.entries.items result

pub returns-clause-read : goal.returns-clause-read
returns-clause-read g c profile =
    let old = state g.S.Store c.args.conn.now in
    let new = state g.S.Store c.walk.new.conn in
    let begun : Gathered = record { entries = c.new.result } in
    read_by_walk takes (λ (v : Gathered). v.entries.items) (λ v u row result h. h) old new begun c.walk.new.visitor
    c.new.ensures.items profile c.walk.result (Ok c.walk.new.visitor.entries) c.walk.ensures
    (subst (λ r. Found c.walk.new.visitor.entries.items r (Ok c.walk.new.visitor.entries)) (sym c.in_ok-walk.was) refl)

pub returns-in_err-walk-clause-read : goal.returns-in_err-walk-clause-read
returns-in_err-walk-clause-read g c profile =
    let p = err_from_is_err_and c.from_residual.result c.from_residual.ensures.1 in
    let old = state g.S.Store c.args.conn.now in
    let new = state g.S.Store c.walk.new.conn in
    let begun : Gathered = record { entries = c.new.result } in
    rw (p.1, p.2) (read_by_walk takes (λ (v : Gathered). v.entries.items) (λ v u row result h. h) old new begun
    c.walk.new.visitor c.new.ensures.items profile c.walk.result (Err c.in_err-walk.field-0.0) c.walk.ensures
    (subst (λ r. Found c.walk.new.visitor.entries.items r (Err c.in_err-walk.field-0.0)) (sym c.in_err-walk.was) refl))
