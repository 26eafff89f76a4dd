use Rattle.std.proofs.Common.{pos, arith, refl}
use Rattle.std.proofs.lemmas.Result.{err_from_is_err_and}
use Rattle.mm_definitions.specs.Fields.{AName, BytesTo, Plain, Whole}
use Rattle.mm_definitions.specs.Records.{place_field, zoom_field}
use Rattle.mm_definitions.proofs.ReadingFacts.{text_at, and_then, the_last, texts_are, holds, refuses}
use Rattle.mm_base.proofs.pieces.read_tile.Goals as goal

pub returns-in_err-table : goal.returns-in_err-table
returns-in_err-table c =
    let p = err_from_is_err_and c.from_residual.result c.from_residual.ensures.1 in
    let t = text_at c.args.fields.now in
    rw (p.1, p.2) (refuses c.args.fields.now 5 (omega arith) (omega arith) c.in_err-table.was
    (and_then AName (t 0) (record { value = Plain; reads = c.name_field.ensures }) c.both-4.ensures
    (and_then zoom_field (t 1) (record { value = λ z. Whole (pos z); reads = c.zoom_field.ensures }) c.both-3.ensures
    (and_then place_field (t 2) (record { value = λ z. Whole (pos z); reads = c.count_field.ensures }) c.both-2.ensures
    (and_then place_field (t 3) (record { value = λ z. Whole (pos z); reads = c.count_field-2.ensures }) c.both.ensures
    (the_last (BytesTo 1048576) (t 4) (record { value = Plain; reads = c.read.ensures })))))))

pub returns : goal.returns
returns c =
    let t = text_at c.args.fields.now in
    let all =
    holds c.in_ok-table.was
    (and_then AName (t 0) (record { value = Plain; reads = c.name_field.ensures }) c.both-4.ensures
    (and_then zoom_field (t 1) (record { value = λ z. Whole (pos z); reads = c.zoom_field.ensures }) c.both-3.ensures
    (and_then place_field (t 2) (record { value = λ z. Whole (pos z); reads = c.count_field.ensures }) c.both-2.ensures
    (and_then place_field (t 3) (record { value = λ z. Whole (pos z); reads = c.count_field-2.ensures }) c.both.ensures
    (the_last (BytesTo 1048576) (t 4) (record { value = Plain; reads = c.read.ensures })))))) in
    rw (texts_are c.args.fields.now 5 (omega arith) (omega arith)) (refl, all)
