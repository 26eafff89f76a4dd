use Rattle.std.proofs.Common.{refl, sym, ◌∙◌}
use Rattle.std.proofs.Math.Facts.{to_z-of_z}
use Rattle.mm_definitions.proofs.RefusalFacts.{refused_for, accepted_for}
use Rattle.mm_store.proofs.Applying.{declines, applies, applies_unasked, applies_not}
use Rattle.mm_relate.proofs.maps.drop_map.Goals as goal

pub returns-in-Some : goal.returns-in-Some
returns-in-Some g c =
    let r = c.ranges in
    rw (← c.as_str-mapping.ensures.text)
    (rw c.refused.ensures (declines (rw (to_z-of_z r.base_id, to_z-of_z r.related_id) at c.in_ok-number.ensures)
    (λ profile p meets says. refused_for _ c.in-Some.number (sym says ∙ c.in-Some.is))))

pub returns-in_err-number : goal.returns-in_err-number
returns-in_err-number g c =
    rw (← c.as_str-mapping.ensures.text) (applies_unasked c.in_err-number.ensures c.from_residual.ensures.1)

pub returns : goal.returns
returns g c =
    let r = c.ranges in
    rw (← c.as_str-mapping.ensures.text)
    (applies (rw (to_z-of_z r.base_id, to_z-of_z r.related_id) at c.in_ok-number.ensures)
    (rw (to_z-of_z r.base_id, to_z-of_z r.related_id) at c.in_ok-delete_pairing.ensures)
    (λ moment profile p meets says. (tt, accepted_for _ (sym says ∙ c.in_default.is), refl)))

pub returns-in_err-delete_pairing : goal.returns-in_err-delete_pairing
returns-in_err-delete_pairing g c =
    rw (← c.as_str-mapping.ensures.text) (applies_not c.in_ok-number.ensures c.in_err-delete_pairing.ensures
    (λ profile p meets says. tt) c.from_residual-in_err-delete_pairing.ensures.1)
