use Rattle.std.proofs.Common.{◌∙◌, [], ◌∷◌, rules}
use Rattle.std.specs.FinMap.{get}
use Rattle.sqlite.specs.declared.types.Value.TheVariants.{Text as Words}
use Rattle.sqlite.specs.Held.{state}
use Rattle.sqlite.specs.Term.{col}
use Rattle.sql_forms.proofs.Keys.{columns_are}
use Rattle.sql_forms.proofs.Selects.{shows}
use Rattle.mm_store.proofs.Selecting as statement
use Rattle.mm_store.specs.Rows.{edition_row}
use Rattle.mm_store.proofs.Lookups.{text_found, mapped_same}
use Rattle.mm_store.proofs.Keys as parts
use Rattle.mm_store.proofs.Steps.{asks_one}
use Rattle.mm_staging.proofs.editions.written_state.Goals as goal

pub returns : goal.returns
returns g c =
    let table = c.args.edition.now in
    asks_one statement.state_of_edition c.first_text.ensures (Words table ∷ []) (search rules)
    (λ version p db h x first gives finds.
    mapped_same (get p.editions table) ∙ text_found parts.editions (db 23) p.editions h.editions table
    (shows (col 1 2 ∷ []) (Words table ∷ [])) (λ state. state) (λ r v is. columns_are r (edition_row table v) 1 is) x
    first gives finds)
