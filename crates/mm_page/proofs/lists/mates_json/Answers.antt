use Rattle.std.proofs.Common.{◌≡◌, ◌∙◌, map, take, ap, arith, rules, string_bytes}
use Rattle.std.proofs.lemmas.List.{take_all}
use Rattle.serde_json.specs.Data.{array}
use Rattle.serde_json.specs.View.{items_of, view}
use Rattle.serde_json.specs.declared.value.Value.{the_lemmas}
use Rattle.serde_json.specs.declared.value.Value.TheVariants as Value
use Rattle.mm_page.specs.Lists.{mate_data}
use Rattle.mm_reads.specs.Related.{mate_told}
use Rattle.mm_page.proofs.ListFacts.{all_clean, mate_clean, text_told}
use Rattle.mm_page.proofs.lists.mates_json.Goals as goal

pub returns : goal.returns
returns c =
    let entries = c.args.mates.now in
    let all : take c.loop-mate.mate-index entries ≡ entries = take_all c.loop-mate.mate-index entries (omega arith) in
    let made : map view c.loop-mate.values.items ≡ map mate_data (map mate_told entries) = c.loop-mate.invariant
    ∙ ap (λ l. map mate_data (map mate_told l)) all in
    let shape : view (Value.Array c.loop-mate.values) ≡ array (items_of (map view c.loop-mate.values.items)) =
    search (rules, the_lemmas) in
    let same : view (Value.Array c.loop-mate.values) ≡ array (items_of (map mate_data (map mate_told entries))) = shape
    ∙ ap (λ l. array (items_of l)) made in
    text_told _ _ string_bytes c.to_string.result same (all_clean mate_data mate_clean (map mate_told entries))
    c.to_string.ensures.text
