use Rattle.std.proofs.Common.{◌≡◌, sym, subst, rules}
use Rattle.std.proofs.lemmas.Result.{err_from_is_err_and}
use Rattle.sqlite.specs.Held.{state}
use Rattle.mm_store.specs.Kept.{no_spare}
use Rattle.mm_blobs.specs.Views.{IsSeen, spare_each}
use Rattle.mm_blobs.proofs.Keeping.{same_but_shelf, shelf_again}
use Rattle.mm_blobs.proofs.Moving.{then_moves_open, move_failed}
use Rattle.mm_blobs.proofs.blobs.sweep.Goals as goal

pub returns : goal.returns
returns g c = record {
  same = search rules;
  released = λ profile spare.
      let mid = state g.S.Store c.unnamed_blobs.new.tx.conn.now in
      let new = state g.S.Store c.release_each.new.tx.conn.now in
      then_moves_open (λ base x _ y. (y ≡ record x { kept = record (x.kept) { shelf = y.kept.shelf } })
      × IsSeen no_spare profile new base y) _ mid new c.in_ok-rows.rows c.release_each.result
      (c.in_ok-rows.ensures.listed profile spare) (c.release_each.ensures.released profile no_spare)
      (λ base x y up it last. (
        up,
        subst (λ rs. IsSeen (spare_each rs no_spare) profile mid base y)
            (sym c.as_slice.ensures.value) last.1,
      ))
      (λ base x y z u it first last. (shelf_again x y z (same_but_shelf x y first.0) last.0, last.1));
}

pub returns-in_err-rows : goal.returns-in_err-rows
returns-in_err-rows g c = record {
  same = search rules;
  released = λ profile spare.
      let p = err_from_is_err_and c.from_residual.result c.from_residual.ensures.1 in
      rw (p.1, p.2) (move_failed _ _ _ (c.in_err-rows.ensures.listed profile spare) (λ base x it. it));
}
