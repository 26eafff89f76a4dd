use Rattle.std.proofs.Common.{sym, refl, ◌∙◌}
use Rattle.mm_definitions.proofs.RefusalFacts.{refused_for, accepted_for}
use Rattle.mm_store.proofs.Going.{changes_then}
use Rattle.mm_store.proofs.Applying.{declines, applies, applies_unasked, applies_not}
use Rattle.mm_layout.proofs.tables.drop_table.Goals as goal

pub returns-in-Some : goal.returns-in-Some
returns-in-Some g c =
    rw (← c.as_str-table.ensures.text) (rw c.refused.ensures (declines c.in_ok-number.ensures
    (λ profile p meets says. refused_for _ c.in-Some.number (sym says ∙ c.in-Some.is))))

pub returns-in_err-number : goal.returns-in_err-number
returns-in_err-number g c =
    rw (← c.as_str-table.ensures.text) (applies_unasked c.in_err-number.ensures c.from_residual.ensures.1)

pub returns-in_err-delete_table : goal.returns-in_err-delete_table
returns-in_err-delete_table g c =
    rw (← c.as_str-table.ensures.text) (applies_not c.in_ok-number.ensures c.in_err-delete_table.ensures
    (λ profile p meets says. tt) c.from_residual-in_err-delete_table.ensures.1)

pub returns : goal.returns
returns g c =
    rw (← c.as_str-table.ensures.text)
    (applies c.in_ok-number.ensures
    (changes_then c.in_ok-delete_table.ensures c.in_ok-delete_zoom_row.ensures (λ p any. tt))
    (λ moment profile p meets says. (tt, accepted_for _ (sym says ∙ c.in_default.is), refl)))

pub returns-in_err-delete_zoom_row : goal.returns-in_err-delete_zoom_row
returns-in_err-delete_zoom_row g c =
    rw (← c.as_str-table.ensures.text)
    (applies_not c.in_ok-number.ensures
    (changes_then c.in_ok-delete_table.ensures c.in_err-delete_zoom_row.ensures (λ p any. tt))
    (λ profile p meets says. tt) c.from_residual-in_err-delete_zoom_row.ensures.1)
