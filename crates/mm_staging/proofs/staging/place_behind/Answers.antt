use Rattle.std.proofs.Common.{inr, refl}
use Rattle.std.proofs.Math.Facts.{to_z-of_z}
use Rattle.mm_staging.proofs.Numbering.{place_next}
use Rattle.mm_store.proofs.Going.{tells, failed}
use Rattle.mm_staging.proofs.staging.place_behind.Goals as goal

pub returns-then-branch : goal.returns-then-branch
returns-then-branch g c =
    tells (rw (to_z-of_z c.ranges.number) at c.in_ok-is_behind.ensures)
    (λ profile p says. place_next p c.args.edition.now c.args.number c.next_place.result (says.yes c.if-branch.true)
    (rw (to_z-of_z c.ranges.number) at c.next_place.ensures))

pub returns-else-branch : goal.returns-else-branch
returns-else-branch g c =
    tells (rw (to_z-of_z c.ranges.number) at c.in_ok-is_behind.ensures)
    (λ profile p says. let none = says.no c.if-branch.false in inr (refl, none.0, none.1))

pub returns-in_err-is_behind : goal.returns-in_err-is_behind
returns-in_err-is_behind g c =
    failed c.in_err-is_behind.ensures c.from_residual.ensures.1
