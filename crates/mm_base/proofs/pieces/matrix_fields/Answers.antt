use Rattle.std.proofs.Common.{pos, arith}
use Rattle.std.proofs.lemmas.Result.{err_from_is_err_and}
use Rattle.mm_definitions.specs.Fields.{Whole}
use Rattle.mm_definitions.specs.Records.{matrix_side, pixel_size, tile_side}
use Rattle.mm_definitions.specs.Bounds.{current}
use Rattle.mm_definitions.proofs.ReadingFacts.{text_at, and_then, the_last, texts_are, holds, refuses}
use Rattle.mm_base.proofs.pieces.matrix_fields.Goals as goal

pub returns-in_err-mw : goal.returns-in_err-mw
returns-in_err-mw c =
    let p = err_from_is_err_and c.from_residual.result c.from_residual.ensures.1 in
    let t = text_at c.args.fields.now in
    rw (p.1, p.2) (refuses c.args.fields.now 6 (omega arith) (omega arith) c.in_err-mw.was
    (and_then matrix_side (t 0) (record { value = λ z. Whole (pos z); reads = c.count_field.ensures }) c.both-5.ensures
    (and_then matrix_side (t 1) (record { value = λ z. Whole (pos z); reads = c.count_field-2.ensures })
    c.both-4.ensures
    (and_then tile_side (t 2) (record { value = λ z. Whole (pos z); reads = c.count_field-3.ensures }) c.both-3.ensures
    (and_then tile_side (t 3) (record { value = λ z. Whole (pos z); reads = c.count_field-4.ensures }) c.both-2.ensures
    (and_then (pixel_size current) (t 4) (record { value = Whole; reads = c.positive_field.ensures }) c.both.ensures
    (the_last (pixel_size current) (t 5) (record { value = Whole; reads = c.positive_field-2.ensures }))))))))

pub returns : goal.returns
returns c =
    let t = text_at c.args.fields.now in
    let all =
    holds c.in_ok-mw.was
    (and_then matrix_side (t 0) (record { value = λ z. Whole (pos z); reads = c.count_field.ensures }) c.both-5.ensures
    (and_then matrix_side (t 1) (record { value = λ z. Whole (pos z); reads = c.count_field-2.ensures })
    c.both-4.ensures
    (and_then tile_side (t 2) (record { value = λ z. Whole (pos z); reads = c.count_field-3.ensures }) c.both-3.ensures
    (and_then tile_side (t 3) (record { value = λ z. Whole (pos z); reads = c.count_field-4.ensures }) c.both-2.ensures
    (and_then (pixel_size current) (t 4) (record { value = Whole; reads = c.positive_field.ensures }) c.both.ensures
    (the_last (pixel_size current) (t 5) (record { value = Whole; reads = c.positive_field-2.ensures }))))))) in
    rw (texts_are c.args.fields.now 6 (omega arith) (omega arith)) all
