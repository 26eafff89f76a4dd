use Rattle.std.proofs.Common.{inr, subst, refl, rules}
use Rattle.std.proofs.lemmas.Result.{err_from_is_err_and}
use Rattle.std.proofs.Math.Facts.{to_z-of_z}
use Rattle.mm_store.proofs.Asking.{told_fault}
use Rattle.mm_blobs.specs.Moves.{ShowsBytes}
use Rattle.mm_blobs.proofs.Moving.{moves_as, move_untold, move_failed}
use Rattle.mm_blobs.proofs.Reading.{bytes_told}
use Rattle.mm_blobs.proofs.blobs.bytes_of.Goals as goal

pub returns-in-Ok : goal.returns-in-Ok
returns-in-Ok g c = record {
  same = search rules;
  found = λ profile spare.
      moves_as _ _ c.in_ok-row.field-0 c.in-Ok.bytes
      ((rw (to_z-of_z c.ranges.id) at c.in_ok-row.ensures.found) profile spare) (λ base x it. it)
      (λ base x y it last. (
        last.0,
        last.1,
        bytes_told _ c.in-Some.row c.in-Ok.bytes.items
            (subst (ShowsBytes _) c.in-Some.is last.2) c.in-Ok.ensures,
      ));
}

pub returns-in-Some : goal.returns-in-Some
returns-in-Some g c = record {
  same = search rules;
  found = λ profile spare. move_untold _ _ _ _
      (c.in_ok-row.ensures.found profile spare) (told_fault c.in-Err.error _ c.fault_of.ensures);
}

pub returns : goal.returns
returns g c = record {
  same = search rules;
  found = λ profile spare. move_untold _ _ _ _ (c.in_ok-row.ensures.found profile spare) (inr refl);
}

pub returns-in_err-row : goal.returns-in_err-row
returns-in_err-row g c = record {
  same = search rules;
  found = λ profile spare.
      let p = err_from_is_err_and c.from_residual.result c.from_residual.ensures.1 in
      rw (p.1, p.2) (move_failed _ _ _ (c.in_err-row.ensures.found profile spare) (λ base x it. it));
}
