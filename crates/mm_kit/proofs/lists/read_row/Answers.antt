use Rattle.csv.specs.Records.{fields_of}
use Rattle.mm_kit.proofs.ReadFacts.{text_read}
use Rattle.mm_kit.proofs.lists.read_row.Goals as goal

pub returns : goal.returns
returns c =
    rw (← c.in-Ok.ensures.same) (text_read c.args.place (fields_of c.in-Ok.text) c.read_entry.result
    c.in-Ok.ensures.text (rw (c.as_slice.ensures.value, c.in-Ok-text_fields.ensures) at c.read_entry.ensures))
