use Rattle.std.proofs.Common.{arith, refl}
use Rattle.std.proofs.lemmas.Result.{err_from_is_err_and}
use Rattle.mm_definitions.specs.Fields.{AName, AnIdentifier, Plain}
use Rattle.mm_definitions.specs.Records.{kind_words}
use Rattle.mm_definitions.specs.Package.{kind_text}
use Rattle.mm_definitions.specs.Effects.{plain_kind}
use Rattle.mm_definitions.proofs.ReadingFacts.{text_at, and_then, the_last, texts_are, holds, refuses}
use Rattle.mm_base.proofs.records.read_table.Goals as goal

pub returns-in_err-table : goal.returns-in_err-table
returns-in_err-table c =
    let p = err_from_is_err_and c.from_residual.result c.from_residual.ensures.1 in
    let t = text_at c.args.fields.now in
    rw (p.1, p.2) (refuses c.args.fields.now 3 (omega arith) (omega arith) c.in_err-table.was
    (and_then AName (t 0) (record { value = Plain; reads = c.name_field.ensures }) c.both-2.ensures
    (and_then kind_words (t 1) (record
    { value = λ kind. Plain (kind_text (plain_kind kind)); reads = c.kind_field.ensures }) c.both.ensures
    (the_last AnIdentifier (t 2) (record { value = Plain; reads = c.read.ensures })))))

pub returns : goal.returns
returns c =
    let t = text_at c.args.fields.now in
    let all =
    holds c.in_ok-table.was
    (and_then AName (t 0) (record { value = Plain; reads = c.name_field.ensures }) c.both-2.ensures
    (and_then kind_words (t 1) (record
    { value = λ kind. Plain (kind_text (plain_kind kind)); reads = c.kind_field.ensures }) c.both.ensures
    (the_last AnIdentifier (t 2) (record { value = Plain; reads = c.read.ensures })))) in
    rw (texts_are c.args.fields.now 3 (omega arith) (omega arith)) (refl, all)
