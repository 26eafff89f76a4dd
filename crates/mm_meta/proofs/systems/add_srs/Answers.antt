use Rattle.std.proofs.Common.{sym, refl, ◌∙◌}
use Rattle.std.proofs.Math.Facts.{to_z-of_z}
use Rattle.std.specs.FinMap.{get}
use Rattle.mm_definitions.proofs.Parts.{none_of}
use Rattle.mm_meta.proofs.Srs.{srs_taken, srs_free}
use Rattle.mm_store.proofs.Applying.{declines, applies, applies_unasked, applies_not}
use Rattle.mm_meta.proofs.systems.add_srs.Goals as goal

pub returns-in_err-has_system : goal.returns-in_err-has_system
returns-in_err-has_system g c =
    applies_unasked c.in_err-has_system.ensures c.from_residual.ensures.1

pub returns-then-branch : goal.returns-then-branch
returns-then-branch g c =
    let a = c.args in
    rw c.refused.ensures (declines (rw (to_z-of_z c.ranges.id) at c.in_ok-has_system.ensures)
    (λ profile p meets says. srs_taken p a.id a.organization_id a.name.now a.organization.now a.definition.now
    a.description.now (sym says ∙ c.if-branch.true)))

pub returns : goal.returns
returns g c =
    let a = c.args in
    applies (rw (to_z-of_z c.ranges.id) at c.in_ok-has_system.ensures)
    (rw (to_z-of_z c.ranges.id, to_z-of_z c.ranges.organization_id) at c.in_ok-insert_system.ensures)
    (λ moment profile p meets says. let free = sym says
    ∙ c.if-branch.false in (
      none_of (get p.systems a.id) free,
      srs_free p a.id a.organization_id a.name.now
          a.organization.now a.definition.now a.description.now free,
      refl,
    ))

pub returns-in_err-insert_system : goal.returns-in_err-insert_system
returns-in_err-insert_system g c =
    let a = c.args in
    applies_not (rw (to_z-of_z c.ranges.id) at c.in_ok-has_system.ensures)
    (rw (to_z-of_z c.ranges.id, to_z-of_z c.ranges.organization_id) at c.in_err-insert_system.ensures)
    (λ profile p meets says. none_of (get p.systems a.id) (sym says ∙ c.if-branch.false))
    c.from_residual-in_err-insert_system.ensures.1
