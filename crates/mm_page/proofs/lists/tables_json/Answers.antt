use Rattle.std.proofs.Common.{◌≡◌, ◌∙◌, map, take, ap, arith, rules, string_bytes}
use Rattle.std.proofs.lemmas.List.{take_all}
use Rattle.serde_json.specs.Data.{array}
use Rattle.serde_json.specs.View.{items_of, view}
use Rattle.serde_json.specs.declared.value.Value.{the_lemmas}
use Rattle.serde_json.specs.declared.value.Value.TheVariants as Value
use Rattle.mm_page.specs.Lists.{table_data}
use Rattle.mm_reads.specs.Contents.{table_told}
use Rattle.mm_page.proofs.ListFacts.{all_clean, table_clean, text_told}
use Rattle.mm_page.proofs.lists.tables_json.Goals as goal

pub returns : goal.returns
returns c =
    let entries = c.args.tables.now in
    let all : take c.loop-entry.entry-index entries ≡ entries = take_all c.loop-entry.entry-index entries
    (omega arith) in
    let made : map view c.loop-entry.values.items ≡ map table_data (map table_told entries) = c.loop-entry.invariant
    ∙ ap (λ l. map table_data (map table_told l)) all in
    let shape : view (Value.Array c.loop-entry.values) ≡ array (items_of (map view c.loop-entry.values.items)) =
    search (rules, the_lemmas) in
    let same : view (Value.Array c.loop-entry.values) ≡ array (items_of (map table_data (map table_told entries))) =
    shape ∙ ap (λ l. array (items_of l)) made in
    text_told _ _ string_bytes c.to_string.result same (all_clean table_data table_clean (map table_told entries))
    c.to_string.ensures.text
