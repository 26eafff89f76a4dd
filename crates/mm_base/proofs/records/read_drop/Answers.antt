use Rattle.std.proofs.Common.{arith}
use Rattle.std.proofs.lemmas.Result.{err_from_is_err_and}
use Rattle.mm_definitions.specs.Fields.{AName, Plain}
use Rattle.mm_definitions.proofs.ReadingFacts.{text_at, the_last, refuses}
use Rattle.mm_base.proofs.records.read_drop.Goals as goal

pub returns-in_err-table : goal.returns-in_err-table
returns-in_err-table c =
    let p = err_from_is_err_and c.from_residual.result c.from_residual.ensures.1 in
    let t = text_at c.args.fields.now in
    rw (p.1, p.2) (refuses c.args.fields.now 1 (omega arith) (omega arith) c.in_err-table.was
    (the_last AName (t 0) (record { value = Plain; reads = c.name_field.ensures })))
