use Rattle.std.proofs.Common.{sym, ◌∙◌, refl}
use Rattle.std.proofs.Math.Facts.{to_z-of_z}
use Rattle.std.proofs.lemmas.Result.{err_from_is_err_and}
use Rattle.mm_layout.proofs.Refusing.{pyramid_21, pyramid_22, pyramid_23, pyramid_24, pyramid_27, pyramid_free}
use Rattle.mm_layout.proofs.Refusing.{empty_between, filled_between}
use Rattle.mm_store.proofs.Going.{tells, goes_on, failed}
use Rattle.mm_layout.proofs.pyramids.extent_or_refusal.Goals as goal

pub returns-then-not-branch : goal.returns-then-not-branch
returns-then-not-branch g c = record {
  extent = tt;
  refusal =
      let a = c.args in
      let b = a.bounds.now in
      tells (rw (to_z-of_z c.ranges.srs) at c.in_ok-has_system.ensures)
      (λ profile p says step.
      pyramid_21 p a.table.now a.identifier.now a.srs b.min_x b.min_y b.max_x b.max_y step
      (sym says ∙ c.if-not-branch.true));
}

pub returns-in_err-has_system : goal.returns-in_err-has_system
returns-in_err-has_system g c =
    let p = err_from_is_err_and c.from_residual.result c.from_residual.ensures.1 in
    rw (p.1, p.2) (record { extent = tt; refusal = failed c.in_err-has_system.ensures refl })

pub returns-then-is_geographic : goal.returns-then-is_geographic
returns-then-is_geographic g c = record {
  extent = tt;
  refusal =
      let a = c.args in
      let b = a.bounds.now in
      let geographic = sym (rw (to_z-of_z c.ranges.srs) at c.is_geographic.ensures) ∙ c.if-is_geographic.true in
      tells (rw (to_z-of_z c.ranges.srs) at c.in_ok-has_system.ensures)
      (λ profile p says step.
      pyramid_22 p a.table.now a.identifier.now a.srs b.min_x b.min_y b.max_x b.max_y step
      (sym says ∙ c.if-not-branch.false) geographic);
}

pub returns-then-branch : goal.returns-then-branch
returns-then-branch g c = record {
  extent = tt;
  refusal =
      let a = c.args in
      let b = a.bounds.now in
      let plane = sym (rw (to_z-of_z c.ranges.srs) at c.is_geographic.ensures) ∙ c.if-is_geographic.false in
      tells (goes_on (rw (to_z-of_z c.ranges.srs) at c.in_ok-has_system.ensures) c.in_ok-is_taken.ensures)
      (λ profile p says step.
      pyramid_23 p a.table.now a.identifier.now a.srs b.min_x b.min_y b.max_x b.max_y step
      (sym says.0 ∙ c.if-not-branch.false) plane (sym says.1 ∙ c.if-branch.true));
}

pub returns-in_err-is_taken : goal.returns-in_err-is_taken
returns-in_err-is_taken g c =
    let p = err_from_is_err_and c.from_residual-in_err-is_taken.result c.from_residual-in_err-is_taken.ensures.1 in
    rw (p.1, p.2) (record {
      extent = tt;
      refusal = failed (goes_on c.in_ok-has_system.ensures c.in_err-is_taken.ensures) refl;
    })

pub returns-then-branch-2 : goal.returns-then-branch-2
returns-then-branch-2 g c = record {
  extent = tt;
  refusal =
      let a = c.args in
      let b = a.bounds.now in
      let plane = sym (rw (to_z-of_z c.ranges.srs) at c.is_geographic.ensures) ∙ c.if-is_geographic.false in
      tells
      (goes_on
      (goes_on (rw (to_z-of_z c.ranges.srs) at c.in_ok-has_system.ensures) c.in_ok-is_taken.ensures)
      c.in_ok-has_identifier.ensures)
      (λ profile p says step.
      pyramid_24 p a.table.now a.identifier.now a.srs b.min_x b.min_y b.max_x b.max_y step
      (sym says.0.0 ∙ c.if-not-branch.false) plane (sym says.0.1 ∙ c.if-branch.false)
      (sym says.1 ∙ c.if-branch-2.true));
}

pub returns-in_err-has_identifier : goal.returns-in_err-has_identifier
returns-in_err-has_identifier g c =
    let p = err_from_is_err_and c.from_residual-in_err-has_identifier.result
    c.from_residual-in_err-has_identifier.ensures.1 in
    rw (p.1, p.2)
    (record {
      extent = tt;
      refusal = failed
          (goes_on (goes_on c.in_ok-has_system.ensures c.in_ok-is_taken.ensures) c.in_err-has_identifier.ensures) refl;
    })

pub returns-in-None : goal.returns-in-None
returns-in-None g c = record {
  extent = tt;
  refusal =
      let a = c.args in
      let b = a.bounds.now in
      let r = c.ranges in
      let plane = sym (rw (to_z-of_z r.srs) at c.is_geographic.ensures) ∙ c.if-is_geographic.false in
      let empty = empty_between b.min_x b.max_x b.min_y b.max_y c.extent.result c.extent.ensures.within c.in-None.is in
      tells
      (goes_on (goes_on (rw (to_z-of_z r.srs) at c.in_ok-has_system.ensures) c.in_ok-is_taken.ensures)
      c.in_ok-has_identifier.ensures)
      (λ profile p says step.
      pyramid_27 p a.table.now a.identifier.now a.srs b.min_x b.min_y b.max_x b.max_y step
      (sym says.0.0 ∙ c.if-not-branch.false) plane (sym says.0.1 ∙ c.if-branch.false)
      (sym says.1 ∙ c.if-branch-2.false) empty);
}

pub returns-in-Some : goal.returns-in-Some
returns-in-Some g c = record {
  extent = rw c.in-Some.is at c.extent.ensures.value;
  refusal =
      let a = c.args in
      let b = a.bounds.now in
      let r = c.ranges in
      let plane = sym (rw (to_z-of_z r.srs) at c.is_geographic.ensures) ∙ c.if-is_geographic.false in
      let filled = filled_between b.min_x b.max_x b.min_y b.max_y c.extent.result c.in-Some.extent
      c.extent.ensures.within c.in-Some.is in
      tells
      (goes_on (goes_on (rw (to_z-of_z r.srs) at c.in_ok-has_system.ensures) c.in_ok-is_taken.ensures)
      c.in_ok-has_identifier.ensures)
      (λ profile p says step.
      pyramid_free p a.table.now a.identifier.now a.srs b.min_x b.min_y b.max_x b.max_y step
      (sym says.0.0 ∙ c.if-not-branch.false) plane (sym says.0.1 ∙ c.if-branch.false)
      (sym says.1 ∙ c.if-branch-2.false) filled);
}
