use Rattle.std.proofs.Common.{refl, sym, ◌∙◌}
use Rattle.std.proofs.Math.Facts.{to_z-of_z}
use Rattle.mm_definitions.proofs.RefusalFacts.{refused_for, accepted_for}
use Rattle.mm_content.proofs.Piecing.{gives_behind, changes_behind, does_bytes, refuses_bytes, bytes_failed}
use Rattle.mm_content.proofs.Piecing.{look_failed}
use Rattle.mm_content.proofs.staged.put_tile_of_piece.Goals as goal

pub returns-in-Some : goal.returns-in-Some
returns-in-Some g c =
    let look = c.in_ok-number.ensures in
    rw (← c.as_str-table.ensures.text, c.refused.ensures)
    (refuses_bytes look.told look.leaves
    (λ bytes p says. refused_for _ c.in-Some.number (sym says ∙ c.in-Some.is)))

pub returns-in_err-number : goal.returns-in_err-number
returns-in_err-number g c = look_failed c.in_err-number.ensures.leaves c.from_residual.ensures.1

pub returns-in_err-give_tile : goal.returns-in_err-give_tile
returns-in_err-give_tile g c =
    let look = c.in_ok-number.ensures in
    bytes_failed
    (gives_behind look.told look.leaves (rw (to_z-of_z c.ranges.blob) at c.in_err-give_tile.ensures))
    c.from_residual-in_err-give_tile.ensures.1

pub returns : goal.returns
returns g c =
    let look = c.in_ok-number.ensures in
    rw (← c.as_str-table.ensures.text)
    (does_bytes (changes_behind
    (gives_behind look.told look.leaves (rw (to_z-of_z c.ranges.blob) at c.in_ok-give_tile.ensures))
    c.in_ok-set_last_change.ensures)
    (λ bytes p says. (accepted_for _ (sym says ∙ c.in_default.is), refl)))

pub returns-in_err-set_last_change : goal.returns-in_err-set_last_change
returns-in_err-set_last_change g c =
    let look = c.in_ok-number.ensures in
    bytes_failed (changes_behind
    (gives_behind look.told look.leaves (rw (to_z-of_z c.ranges.blob) at c.in_ok-give_tile.ensures))
    c.in_err-set_last_change.ensures)
    c.from_residual-in_err-set_last_change.ensures.1
