use Rattle.std.proofs.Common.{arith, refl}
use Rattle.std.proofs.lemmas.Result.{err_from_is_err_and}
use Rattle.mm_definitions.specs.Fields.{AContentType, AName, BytesTo, Plain, Whole}
use Rattle.mm_definitions.specs.Records.{id_field}
use Rattle.mm_definitions.proofs.ReadingFacts.{text_at, and_then, the_last, texts_are, holds, refuses}
use Rattle.mm_base.proofs.pieces.read_media.Goals as goal

pub returns-in_err-table : goal.returns-in_err-table
returns-in_err-table c =
    let p = err_from_is_err_and c.from_residual.result c.from_residual.ensures.1 in
    let t = text_at c.args.fields.now in
    rw (p.1, p.2) (refuses c.args.fields.now 4 (omega arith) (omega arith) c.in_err-table.was
    (and_then AName (t 0) (record { value = Plain; reads = c.name_field.ensures }) c.both-3.ensures
    (and_then id_field (t 1) (record { value = Whole; reads = c.positive_field.ensures }) c.both-2.ensures
    (and_then AContentType (t 2) (record { value = Plain; reads = c.read.ensures }) c.both.ensures
    (the_last (BytesTo 4194304) (t 3) (record { value = Plain; reads = c.read-2.ensures }))))))

pub returns : goal.returns
returns c =
    let t = text_at c.args.fields.now in
    let all =
    holds c.in_ok-table.was
    (and_then AName (t 0) (record { value = Plain; reads = c.name_field.ensures }) c.both-3.ensures
    (and_then id_field (t 1) (record { value = Whole; reads = c.positive_field.ensures }) c.both-2.ensures
    (and_then AContentType (t 2) (record { value = Plain; reads = c.read.ensures }) c.both.ensures
    (the_last (BytesTo 4194304) (t 3) (record { value = Plain; reads = c.read-2.ensures }))))) in
    rw (texts_are c.args.fields.now 4 (omega arith) (omega arith)) (refl, all)
