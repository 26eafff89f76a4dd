use Rattle.std.proofs.Common.{◌≡◌, ◌<◌, ◌∙◌, length, true, false, rules}
use Rattle.std.specs.Prelude.{bytes_eq, string_bytes}
use Rattle.mm_kit.proofs.MemoryFolderFacts.{end, met, passed}
use Rattle.mm_kit.proofs.memory.find_file.Goals as goal

pub returns-then-eq : goal.returns-then-eq
returns-then-eq c =
    let lt : c.files.i < length c.args.files.now = search rules in
    let eq : bytes_eq (string_bytes c.index-files-i.result.name) c.args.name.now ≡ true = search rules in
    c.files.invariant ∙ met c.args.files.now c.args.name.now c.files.i _ c.index-files-i.result lt c.index-files-i.is eq

pub files-preserved : goal.files-preserved
files-preserved c =
    let lt : c.files.i < length c.args.files.now = search rules in
    let eq : bytes_eq (string_bytes c.index-files-i.result.name) c.args.name.now ≡ false = search rules in
    c.files.invariant ∙ passed c.args.files.now c.args.name.now c.files.i _ c.index-files-i.result lt c.index-files-i.is
    eq

pub returns : goal.returns
returns c = c.files.invariant ∙ end c.args.files.now c.args.name.now c.files.i (search rules)
