use Rattle.std.proofs.Common.{arith, refl}
use Rattle.std.proofs.lemmas.Result.{err_from_is_err_and}
use Rattle.mm_definitions.specs.Fields.{Plain, Whole}
use Rattle.mm_definitions.specs.Records.{definition_field, id_field, remark_field, system_name}
use Rattle.mm_definitions.proofs.ReadingFacts.{text_at, and_then, the_last, texts_are, holds, refuses}
use Rattle.mm_base.proofs.records.read_srs.Goals as goal

pub returns-in_err-id : goal.returns-in_err-id
returns-in_err-id c =
    let p = err_from_is_err_and c.from_residual.result c.from_residual.ensures.1 in
    let t = text_at c.args.fields.now in
    rw (p.1, p.2) (refuses c.args.fields.now 6 (omega arith) (omega arith) c.in_err-id.was
    (and_then id_field (t 0) (record { value = Whole; reads = c.positive_field.ensures }) c.both-5.ensures
    (and_then system_name (t 1) (record { value = Plain; reads = c.read.ensures }) c.both-4.ensures
    (and_then system_name (t 2) (record { value = Plain; reads = c.read-2.ensures }) c.both-3.ensures
    (and_then id_field (t 3) (record { value = Whole; reads = c.positive_field-2.ensures }) c.both-2.ensures
    (and_then definition_field (t 4) (record { value = Plain; reads = c.read-3.ensures }) c.both.ensures
    (the_last remark_field (t 5) (record { value = Plain; reads = c.read-4.ensures }))))))))

pub returns : goal.returns
returns c =
    let t = text_at c.args.fields.now in
    let all =
    holds c.in_ok-id.was
    (and_then id_field (t 0) (record { value = Whole; reads = c.positive_field.ensures }) c.both-5.ensures
    (and_then system_name (t 1) (record { value = Plain; reads = c.read.ensures }) c.both-4.ensures
    (and_then system_name (t 2) (record { value = Plain; reads = c.read-2.ensures }) c.both-3.ensures
    (and_then id_field (t 3) (record { value = Whole; reads = c.positive_field-2.ensures }) c.both-2.ensures
    (and_then definition_field (t 4) (record { value = Plain; reads = c.read-3.ensures }) c.both.ensures
    (the_last remark_field (t 5) (record { value = Plain; reads = c.read-4.ensures }))))))) in
    rw (texts_are c.args.fields.now 6 (omega arith) (omega arith)) (refl, all)
