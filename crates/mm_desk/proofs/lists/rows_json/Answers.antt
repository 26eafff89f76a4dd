use Rattle.std.proofs.Common.{◌≡◌, ◌∙◌, ℤ, map, take, ap, arith, rules, false, refl, string_bytes}
use Rattle.std.proofs.lemmas.List.{take_all}
use Rattle.serde_json.specs.Data.{array}
use Rattle.serde_json.specs.View.{items_of, view}
use Rattle.serde_json.specs.Written.{has_float}
use Rattle.serde_json.specs.declared.value.Value.{the_lemmas}
use Rattle.serde_json.specs.declared.value.Value.TheVariants as Value
use Rattle.mm_definitions.specs.Package.{AttributeRow}
use Rattle.mm_desk.specs.Lists.{numbered_data}
use Rattle.mm_reads.specs.RowLists.{numbered_told}
use Rattle.mm_page.proofs.ListFacts.{all_clean, text_told, whole_clean}
use Rattle.mm_desk.proofs.lists.rows_json.Goals as goal

row_clean : (e : ℤ × AttributeRow) → has_float (numbered_data e) ≡ false
row_clean e = rw (whole_clean e.1.amount, whole_clean e.0) refl

pub returns : goal.returns
returns c =
    let entries = c.args.rows.now in
    let all : take c.loop-entry.entry-index entries ≡ entries = take_all c.loop-entry.entry-index entries
    (omega arith) in
    let made : map view c.loop-entry.values.items ≡ map numbered_data (map numbered_told entries) =
    c.loop-entry.invariant ∙ ap (λ l. map numbered_data (map numbered_told l)) all in
    let shape : view (Value.Array c.loop-entry.values) ≡ array (items_of (map view c.loop-entry.values.items)) =
    search (rules, the_lemmas) in
    let same : view (Value.Array c.loop-entry.values)
    ≡ array (items_of (map numbered_data (map numbered_told entries))) = shape ∙ ap (λ l. array (items_of l)) made in
    text_told _ _ string_bytes c.to_string.result same (all_clean numbered_data row_clean (map numbered_told entries))
    c.to_string.ensures.text
