use Rattle.std.proofs.Common.{arith, refl}
use Rattle.std.proofs.lemmas.Result.{err_from_is_err_and}
use Rattle.mm_definitions.specs.Fields.{AName, AnIdentifier, Plain, Whole}
use Rattle.mm_definitions.specs.Records.{coordinate, named_system, step_words}
use Rattle.mm_definitions.specs.Bounds.{current}
use Rattle.mm_definitions.specs.Package.{kind_text}
use Rattle.mm_definitions.specs.Effects.{step_kind}
use Rattle.mm_definitions.proofs.ReadingFacts.{text_at, and_then, the_last, texts_are, holds, refuses}
use Rattle.mm_base.proofs.records.read_pyramid.Goals as goal

pub returns-in_err-table : goal.returns-in_err-table
returns-in_err-table c =
    let p = err_from_is_err_and c.from_residual.result c.from_residual.ensures.1 in
    let t = text_at c.args.fields.now in
    rw (p.1, p.2) (refuses c.args.fields.now 8 (omega arith) (omega arith) c.in_err-table.was
    (and_then AName (t 0) (record { value = Plain; reads = c.name_field.ensures }) c.both-7.ensures
    (and_then AnIdentifier (t 1) (record { value = Plain; reads = c.read.ensures }) c.both-6.ensures
    (and_then named_system (t 2) (record { value = Whole; reads = c.system_field.ensures }) c.both-5.ensures
    (and_then (coordinate current) (t 3) (record { value = Whole; reads = c.signed_field.ensures }) c.both-4.ensures
    (and_then (coordinate current) (t 4) (record { value = Whole; reads = c.signed_field-2.ensures }) c.both-3.ensures
    (and_then (coordinate current) (t 5) (record { value = Whole; reads = c.signed_field-3.ensures }) c.both-2.ensures
    (and_then (coordinate current) (t 6) (record { value = Whole; reads = c.signed_field-4.ensures }) c.both.ensures
    (the_last step_words (t 7) (record
    { value = λ step. Plain (kind_text (step_kind step)); reads = c.step_field.ensures }))))))))))

pub returns : goal.returns
returns c =
    let t = text_at c.args.fields.now in
    let all =
    holds c.in_ok-table.was
    (and_then AName (t 0) (record { value = Plain; reads = c.name_field.ensures }) c.both-7.ensures
    (and_then AnIdentifier (t 1) (record { value = Plain; reads = c.read.ensures }) c.both-6.ensures
    (and_then named_system (t 2) (record { value = Whole; reads = c.system_field.ensures }) c.both-5.ensures
    (and_then (coordinate current) (t 3) (record { value = Whole; reads = c.signed_field.ensures }) c.both-4.ensures
    (and_then (coordinate current) (t 4) (record { value = Whole; reads = c.signed_field-2.ensures }) c.both-3.ensures
    (and_then (coordinate current) (t 5) (record { value = Whole; reads = c.signed_field-3.ensures }) c.both-2.ensures
    (and_then (coordinate current) (t 6) (record { value = Whole; reads = c.signed_field-4.ensures }) c.both.ensures
    (the_last step_words (t 7) (record
    { value = λ step. Plain (kind_text (step_kind step)); reads = c.step_field.ensures }))))))))) in
    rw (texts_are c.args.fields.now 8 (omega arith) (omega arith)) (refl, all)
