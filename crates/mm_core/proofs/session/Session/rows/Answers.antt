use Rattle.std.proofs.Common.{◌≡◌, ◌∙◌, true, false, refl, sym}
use Rattle.std.proofs.lemmas.Result.{err_from_is_err_and}
use Rattle.std.proofs.Math.Facts.{to_z-of_z}
use Rattle.mm_definitions.specs.Bounds.{current}
use Rattle.mm_core.proofs.Ready.{not_read, ready_works}
use Rattle.mm_core.proofs.session.Session.rows.Goals as goal

pub returns-in_err-ready : goal.returns-in_err-ready
returns-in_err-ready g c =
    let p = err_from_is_err_and c.from_residual.result c.from_residual.ensures.1 in
    rw (p.1, p.2) (not_read _ _ _ (sym c.in_err-ready.ensures))

pub returns : goal.returns
returns g c = record {
  ended = λ failed. absurd (let clash : false ≡ true = sym (ready_works _ (sym c.in_ok-ready.ensures)) ∙ failed in cc);
  same = refl;
  read = λ works. rw (to_z-of_z c.ranges.first) at (c.rows_from.ensures.read current);
}
