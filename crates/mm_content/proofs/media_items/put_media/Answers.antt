use Rattle.std.proofs.Common.{refl, sym, ◌∙◌}
use Rattle.std.proofs.Math.Facts.{to_z-of_z}
use Rattle.mm_definitions.proofs.RefusalFacts.{refused_for, accepted_for}
use Rattle.mm_store.proofs.Going.{next_change}
use Rattle.mm_layout.proofs.Lending.{does, refuses, command_failed}
use Rattle.mm_content.proofs.media_items.put_media.Goals as goal

pub returns-in-Some : goal.returns-in-Some
returns-in-Some g c =
    rw (← c.as_str-table.ensures.text) (rw c.refused.ensures (refuses c.in_ok-number.ensures.told
    (λ profile p meets says. refused_for _ c.in-Some.number (sym (says meets) ∙ c.in-Some.is))))

pub returns-in_err-number : goal.returns-in_err-number
returns-in_err-number g c =
    command_failed c.in_err-number.ensures.told c.from_residual.ensures.1

pub returns-in_err-write_medium : goal.returns-in_err-write_medium
returns-in_err-write_medium g c =
    command_failed (next_change c.in_ok-number.ensures.told c.in_err-write_medium.ensures)
    c.from_residual-in_err-write_medium.ensures.1

pub returns : goal.returns
returns g c =
    rw (← c.as_str-table.ensures.text)
    (does (next_change (next_change c.in_ok-number.ensures.told
    (rw (to_z-of_z c.ranges.id) at c.in_ok-write_medium.ensures))
    c.in_ok-set_last_change.ensures)
    (λ profile p meets says. (accepted_for _ (sym (says meets) ∙ c.in_default.is), refl)))

pub returns-in_err-set_last_change : goal.returns-in_err-set_last_change
returns-in_err-set_last_change g c =
    command_failed (next_change (next_change c.in_ok-number.ensures.told c.in_ok-write_medium.ensures)
    c.in_err-set_last_change.ensures)
    c.from_residual-in_err-set_last_change.ensures.1
