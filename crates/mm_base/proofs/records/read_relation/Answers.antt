use Rattle.std.proofs.Common.{arith, refl}
use Rattle.std.proofs.lemmas.Result.{err_from_is_err_and}
use Rattle.mm_definitions.specs.Fields.{AName, Plain}
use Rattle.mm_definitions.specs.Records.{relation_words}
use Rattle.mm_definitions.specs.Conditions.{relation_text}
use Rattle.mm_definitions.proofs.ReadingFacts.{text_at, and_then, the_last, texts_are, holds, refuses}
use Rattle.mm_base.proofs.records.read_relation.Goals as goal

pub returns-in_err-mapping : goal.returns-in_err-mapping
returns-in_err-mapping c =
    let p = err_from_is_err_and c.from_residual.result c.from_residual.ensures.1 in
    let t = text_at c.args.fields.now in
    rw (p.1, p.2) (refuses c.args.fields.now 4 (omega arith) (omega arith) c.in_err-mapping.was
    (and_then AName (t 0) (record { value = Plain; reads = c.name_field.ensures }) c.both-3.ensures
    (and_then AName (t 1) (record { value = Plain; reads = c.name_field-2.ensures }) c.both-2.ensures
    (and_then AName (t 2) (record { value = Plain; reads = c.name_field-3.ensures }) c.both.ensures
    (the_last relation_words (t 3) (record
    { value = λ name. Plain (relation_text name); reads = c.relation_field.ensures }))))))

pub returns : goal.returns
returns c =
    let t = text_at c.args.fields.now in
    let all =
    holds c.in_ok-mapping.was
    (and_then AName (t 0) (record { value = Plain; reads = c.name_field.ensures }) c.both-3.ensures
    (and_then AName (t 1) (record { value = Plain; reads = c.name_field-2.ensures }) c.both-2.ensures
    (and_then AName (t 2) (record { value = Plain; reads = c.name_field-3.ensures }) c.both.ensures
    (the_last relation_words (t 3) (record
    { value = λ name. Plain (relation_text name); reads = c.relation_field.ensures }))))) in
    rw (texts_are c.args.fields.now 4 (omega arith) (omega arith)) (refl, all)
