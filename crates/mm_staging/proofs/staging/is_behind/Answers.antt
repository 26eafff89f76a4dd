use Rattle.std.proofs.Common.{rules, w64}
use Rattle.std.proofs.Math.Facts.{to_z-of_z}
use mir.Val.{SFits}
use Rattle.mm_staging.proofs.Numbering.{found_behind, lost_behind}
use Rattle.mm_store.proofs.Going.{tells, failed}
use Rattle.mm_staging.proofs.staging.is_behind.Goals as goal

pub returns-then-found : goal.returns-then-found
returns-then-found g c =
    let fits : SFits w64 c.number_before.result = search rules in
    tells (rw (to_z-of_z fits) at c.in_ok-found.ensures)
    (λ profile p says. found_behind p c.args.edition.now c.args.number c.number_before.result
    (rw (to_z-of_z c.ranges.number) at c.number_before.ensures) c.in_ok-found.found says c.if-found.true)

pub returns : goal.returns
returns g c =
    let fits : SFits w64 c.number_before.result = search rules in
    rw (to_z-of_z c.ranges.number) (tells (rw (to_z-of_z fits) at c.in_ok-found.ensures)
    (λ profile p says. lost_behind p c.args.edition.now c.args.number c.number_before.result
    (rw (to_z-of_z c.ranges.number) at c.number_before.ensures) c.in_ok-found.found says c.if-found.false))

pub returns-in_err-found : goal.returns-in_err-found
returns-in_err-found g c =
    failed c.in_err-found.ensures c.from_residual.ensures.1
