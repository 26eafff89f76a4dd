use Rattle.std.proofs.Common.{◌≡◌, true, subst, rules, w64, to_z, of_z, to_z-of_z}
use Rattle.std.proofs.lemmas.Result.{err_from_is_err_and}
use Rattle.sqlite.specs.Held.{state}
use Rattle.std.specs.FinMap.{remove}
use Rattle.mm_store.specs.Kept.{IsNamed}
use Rattle.mm_blobs.specs.Views.{spare_but, IsSeen, TellsWhether}
use Rattle.mm_blobs.proofs.Moving.{moves_as, then_moves, move_failed, inside_looser}
use Rattle.mm_blobs.proofs.Keeping.{keeps_named, kept_in, holds_still, same_but_shelf, shelf_in}
use Rattle.mm_blobs.proofs.blobs.release.Goals as goal

pub returns-then-branch : goal.returns-then-branch
returns-then-branch g c = record {
  same = search rules;
  released = λ profile spare.
      let new = state g.S.Store c.is_named.new.tx.conn.now in
      let id = c.args.id in
      let back : to_z w64 (of_z w64 id) ≡ id = search (rules, to_z-of_z) in
      moves_as _ new _ _ (c.in_ok-is_named.ensures.found profile spare) (λ base x it. it)
      (λ base x y it last. (
        same_but_shelf x y last.0,
        inside_looser profile spare (spare_but id spare) new base y
            (λ tables h. holds_still spare (spare_but id spare) profile.version tables y h
            (keeps_named spare tables y.kept y.content (kept_in spare spare profile.version tables y h) id
            (subst (λ z. TellsWhether (IsNamed y.kept z) true) back
            (subst (TellsWhether (IsNamed y.kept (to_z w64 (of_z w64 id)))) c.if-branch.true last.2)))) last.1,
      ));
}

pub returns-else-branch : goal.returns-else-branch
returns-else-branch g c = record {
  same = search rules;
  released = λ profile spare.
      let new = state g.S.Store c.delete_blob.new.tx.conn.now in
      let id = c.args.id in
      let back : to_z w64 (of_z w64 id) ≡ id = search (rules, to_z-of_z) in
      then_moves (λ base x it y. (y ≡ record x { kept = record (x.kept) { shelf = y.kept.shelf } })
      × IsSeen (spare_but id spare) profile new base y) _ _ new _ c.delete_blob.result
      (c.in_ok-is_named.ensures.found profile spare) (c.delete_blob.ensures.gone profile spare)
      (λ base x y it mid. (
        mid.1,
        subst (TellsWhether (IsNamed y.kept (to_z w64 (of_z w64 id)))) c.if-branch.false
            mid.2,
      ))
      (λ base x y z u it mid last. (
        shelf_in x y z (remove y.kept.shelf (to_z w64 (of_z w64 id))) mid.0 last.0,
        subst
            (λ n. IsSeen (spare_but n spare) profile new base z) back last.1,
      ));
}

pub returns-in_err-is_named : goal.returns-in_err-is_named
returns-in_err-is_named g c = record {
  same = search rules;
  released = λ profile spare.
      let p = err_from_is_err_and c.from_residual.result c.from_residual.ensures.1 in
      rw (p.1, p.2) (move_failed _ _ _ (c.in_err-is_named.ensures.found profile spare) (λ base x it. it));
}
