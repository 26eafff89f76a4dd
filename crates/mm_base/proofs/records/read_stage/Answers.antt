use Rattle.std.proofs.Common.{refl}
use Rattle.std.proofs.lemmas.Result.{err_from_is_err_and}
use Rattle.mm_definitions.specs.Fields.{AName, Plain, Whole}
use Rattle.mm_definitions.specs.Records.{id_field}
use Rattle.mm_definitions.proofs.ReadingFacts.{text_at, texts_of, and_then, holds}
use Rattle.mm_base.proofs.RecordFacts.{after_two, piece_fields, stage_met, stage_refuses, two_and_rest}
use Rattle.mm_base.proofs.records.read_stage.Goals as goal

pub returns-in_err-edition : goal.returns-in_err-edition
returns-in_err-edition c =
    let p = err_from_is_err_and c.from_residual.result c.from_residual.ensures.1 in
    let xs = c.args.fields.now in
    rw (p.1, p.2) (stage_refuses xs c.in-len2-up.len_at_least c.in_err-edition.was
    (and_then AName (text_at xs 0) (record { value = Plain; reads = c.name_field.ensures }) c.both-2.ensures
    (and_then id_field (text_at xs 1) (record { value = Whole; reads = c.positive_field.ensures }) c.both.ensures
    (piece_fields (texts_of (after_two xs)) c.read_piece.result c.read_piece.ensures.reads))))

pub returns : goal.returns
returns c =
    let xs = c.args.fields.now in
    let all =
    holds c.in_ok-edition.was
    (and_then AName (text_at xs 0) (record { value = Plain; reads = c.name_field.ensures }) c.both-2.ensures
    (and_then id_field (text_at xs 1) (record { value = Whole; reads = c.positive_field.ensures }) c.both.ensures
    (piece_fields (texts_of (after_two xs)) c.read_piece.result c.read_piece.ensures.reads))) in
    rw (two_and_rest xs c.in-len2-up.len_at_least) (refl, stage_met _ _ (texts_of (after_two xs)) _ _ _ _ all)
