use Rattle.std.proofs.Common.{◌≡◌, rules}
use Rattle.mm_base.proofs.RecordFacts.{rest_of}
use Rattle.mm_kit.proofs.EntryFacts.{entry_whole}
use Rattle.mm_kit.proofs.entries.read_entry.Goals as goal

pub returns : goal.returns
returns c =
    let items : c.extend_from_slice.new.self.items ≡ rest_of c.args.fields.now = search rules in
    entry_whole c.args.place c.args.fields.now _ c.read_record.result c.in-len1-up.len_at_least items
    c.read_record.ensures
