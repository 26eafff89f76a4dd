use Rattle.std.proofs.Common.{arith, refl}
use Rattle.std.proofs.lemmas.Result.{err_from_is_err_and}
use Rattle.mm_definitions.specs.Fields.{AName, Plain, Whole}
use Rattle.mm_definitions.specs.Records.{id_field}
use Rattle.mm_definitions.proofs.ReadingFacts.{text_at, and_then, the_last, texts_are, holds, refuses}
use Rattle.mm_base.proofs.pieces.read_map_drop.Goals as goal

pub returns-in_err-mapping : goal.returns-in_err-mapping
returns-in_err-mapping c =
    let p = err_from_is_err_and c.from_residual.result c.from_residual.ensures.1 in
    let t = text_at c.args.fields.now in
    rw (p.1, p.2) (refuses c.args.fields.now 3 (omega arith) (omega arith) c.in_err-mapping.was
    (and_then AName (t 0) (record { value = Plain; reads = c.name_field.ensures }) c.both-2.ensures
    (and_then id_field (t 1) (record { value = Whole; reads = c.positive_field.ensures }) c.both.ensures
    (the_last id_field (t 2) (record { value = Whole; reads = c.positive_field-2.ensures })))))

pub returns : goal.returns
returns c =
    let t = text_at c.args.fields.now in
    let all =
    holds c.in_ok-mapping.was
    (and_then AName (t 0) (record { value = Plain; reads = c.name_field.ensures }) c.both-2.ensures
    (and_then id_field (t 1) (record { value = Whole; reads = c.positive_field.ensures }) c.both.ensures
    (the_last id_field (t 2) (record { value = Whole; reads = c.positive_field-2.ensures })))) in
    rw (texts_are c.args.fields.now 3 (omega arith) (omega arith)) (refl, all)
