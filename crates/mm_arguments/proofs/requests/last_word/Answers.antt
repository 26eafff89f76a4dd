use Rattle.std.proofs.Common.{◌∙◌, ap, sym, map, option_map}
use Rattle.std.specs.Borrow.{Bor}
use Rattle.clap.specs.Words.{Text, found_of}
use Rattle.clap.proofs.WalkLemmas.{raw_values-rows}
use Rattle.mm_arguments.proofs.Reading.{last_read}
use Rattle.mm_arguments.proofs.requests.last_word.Goals as goal

pub returns : goal.returns
returns c =
    let f = found_of c.args.matches.now in
    let found = ap (option_map (λ s. map (λ (v : Bor Text). v.now) s.now)) c.in_ok-get_strs.was in
    let given = sym (raw_values-rows f c.args.id.now) ∙ (sym c.get_strs.ensures ∙ found) in
    last_read f c.args.id.now c.in_ok-get_strs.field-0.now c.copied.result given
    (c.copied.ensures ∙ c.last.ensures.value)
