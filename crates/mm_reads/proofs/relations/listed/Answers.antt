use Rattle.std.proofs.Common.{Bool, Ok, Err, Result, refl, sym, subst, rules}
use Rattle.std.proofs.lemmas.Result.{err_from_is_err_and}
use Rattle.sqlite.specs.Order.{Row}
use Rattle.sqlite.specs.Held.{state}
use Rattle.mm_definitions.specs.declared.answers.Fault.{Fault}
use Rattle.mm_reads.specs.declared.relations.Gathered.{Gathered}
use Rattle.mm_reads.specs.Related.{GathersMates}
use Rattle.mm_reads.proofs.GatheredRead.{Found}
use Rattle.mm_reads.proofs.ReadingMates.{read_by_walk}
use Rattle.mm_reads.proofs.relations.listed.Goals as goal

abbrev takes : Gathered → Row → Gathered → Result Bool Fault → Type 0
takes old row new result = GathersMates old.items.items row new.items.items result

pub returns-clause-read : goal.returns-clause-read
returns-clause-read g c profile =
    let old = state g.S.Store c.args.conn.now in
    let new = state g.S.Store c.walk.new.conn in
    let begun : Gathered = record { items = c.new.result } in
    read_by_walk takes (λ (v : Gathered). v.items.items) (λ v u row result h. h) c.args.table.now c.args.id _
    (search rules) old new begun c.walk.new.visitor c.new.ensures.items profile c.walk.result
    (Ok c.walk.new.visitor.items) c.walk.ensures
    (subst (λ r. Found c.walk.new.visitor.items.items r (Ok c.walk.new.visitor.items)) (sym c.in_ok-walk.was) refl)

pub returns-in_err-walk-clause-read : goal.returns-in_err-walk-clause-read
returns-in_err-walk-clause-read g c profile =
    let p = err_from_is_err_and c.from_residual.result c.from_residual.ensures.1 in
    let old = state g.S.Store c.args.conn.now in
    let new = state g.S.Store c.walk.new.conn in
    let begun : Gathered = record { items = c.new.result } in
    rw (p.1, p.2) (read_by_walk takes (λ (v : Gathered). v.items.items) (λ v u row result h. h) c.args.table.now
    c.args.id _ (search rules) old new begun c.walk.new.visitor c.new.ensures.items profile c.walk.result
    (Err c.in_err-walk.field-0.0) c.walk.ensures
    (subst (λ r. Found c.walk.new.visitor.items.items r (Err c.in_err-walk.field-0.0)) (sym c.in_err-walk.was) refl))
