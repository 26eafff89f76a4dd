use Rattle.std.proofs.Common.{pos, refl}
use Rattle.std.proofs.lemmas.Result.{err_from_is_err_and}
use Rattle.mm_definitions.specs.Fields.{AName, Plain, Whole}
use Rattle.mm_definitions.specs.Records.{grid_form, matrix_values, zoom_field}
use Rattle.mm_definitions.specs.Bounds.{current}
use Rattle.mm_definitions.proofs.ReadingFacts.{AreFields, text_at, texts_of, and_then, holds}
use Rattle.mm_base.proofs.RecordFacts.{after_two, two_and_rest, two_refuse}
use Rattle.mm_base.proofs.pieces.read_matrix.Goals as goal

pub returns-in_err-table : goal.returns-in_err-table
returns-in_err-table c =
    let p = err_from_is_err_and c.from_residual.result c.from_residual.ensures.1 in
    let xs = c.args.fields.now in
    let matrix : AreFields (grid_form current) (texts_of (after_two xs)) c.matrix_fields.result =
    record { values = matrix_values; reads = c.matrix_fields.ensures } in
    rw (p.1, p.2) (two_refuse xs c.in-len2-up.len_at_least c.in_err-table.was
    (and_then AName (text_at xs 0) (record { value = Plain; reads = c.name_field.ensures }) c.both-2.ensures
    (and_then zoom_field (text_at xs 1) (record { value = λ z. Whole (pos z); reads = c.zoom_field.ensures })
    c.both.ensures
    matrix)))

pub returns : goal.returns
returns c =
    let xs = c.args.fields.now in
    let matrix : AreFields (grid_form current) (texts_of (after_two xs)) c.matrix_fields.result =
    record { values = matrix_values; reads = c.matrix_fields.ensures } in
    let all =
    holds c.in_ok-table.was
    (and_then AName (text_at xs 0) (record { value = Plain; reads = c.name_field.ensures }) c.both-2.ensures
    (and_then zoom_field (text_at xs 1) (record { value = λ z. Whole (pos z); reads = c.zoom_field.ensures })
    c.both.ensures
    matrix)) in
    rw (two_and_rest xs c.in-len2-up.len_at_least) (refl, all)
