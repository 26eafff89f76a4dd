use Rattle.std.proofs.Common.{[], ◌∷◌, rules}
use Rattle.sqlite.specs.declared.types.Value.TheVariants.{Text as Words}
use Rattle.sqlite.specs.Term.{col}
use Rattle.sql_forms.proofs.Keys.{columns_are}
use Rattle.sql_forms.proofs.Selects.{shows}
use Rattle.mm_definitions.specs.Package.{Contents}
use Rattle.mm_store.specs.Rows.{contents_row}
use Rattle.mm_store.proofs.Lookups.{text_found}
use Rattle.mm_store.proofs.Keys as parts
use Rattle.mm_store.proofs.Steps.{asks_one}
use Rattle.mm_layout.proofs.Stamped.{last_change}
use Rattle.mm_layout.proofs.contents.last_change_of.Goals as goal

pub returns : goal.returns
returns g c =
    let table = c.args.table.now in
    asks_one last_change c.first_text.ensures (Words table ∷ []) (search rules)
    (λ version p db h x first gives finds.
    text_found parts.contents (db 1) p.contents h.contents table
    (shows (col 1 5 ∷ []) (Words table ∷ [])) (λ (v : Contents). v.last_change)
    (λ r v is. columns_are r (contents_row table v) 4 is) x first gives finds)
