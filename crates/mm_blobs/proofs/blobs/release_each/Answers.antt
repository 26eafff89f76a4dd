use Rattle.std.proofs.Common.{◌≡◌, ◌+◌, ◌≤◌, [], ◌∷◌, drop, Ok, Err, length, true, refl, sym, ap, subst, ◌∙◌, arith}
use Rattle.std.proofs.Common.{rules}
use Rattle.std.proofs.lemmas.Result.{err_from_is_err_and}
use Rattle.std.proofs.lemmas.List.{drop_more}
use Rattle.std.proofs.Math.ListN.{drop_of_length-le}
use Rattle.sqlite.specs.Held.{state}
use Rattle.mm_blobs.specs.Views.{spare_each, IsSeen}
use Rattle.mm_blobs.proofs.Keeping.{same_but_shelf, shelf_again}
use Rattle.mm_blobs.proofs.Moving.{then_moves, moves_less, move_failed}
use Rattle.mm_blobs.proofs.Opening.{seen_looser}
use Rattle.mm_blobs.proofs.Releasing.{commits_nothing, spared_apart, spared_none}
use Rattle.mm_blobs.proofs.blobs.release_each.Goals as goal

pub loop-row-init : goal.loop-row-init
loop-row-init g c = record {
  same = refl;
  goes = λ profile spare. record {
    survives = commits_nothing _;
    on = λ clean ground x it. it.1.back;
    moved = λ clean ground x it. (it.0, x, (same_but_shelf x x refl, it.1));
    faults = tt;
  };
}

pub loop-row-preserved : goal.loop-row-preserved
loop-row-preserved g c =
    let inv = c.loop-row.invariant in
    let new = state g.S.Store c.release_in.new.tx.conn.now in
    let rows = c.args.rows.now in
    let i = c.loop-row.row-index in
    let row = c.row-item.result in
    let rest = drop (i + 1) rows in
    let left : drop i rows ≡ row ∷ rest = drop_more rows i row c.loop-row-test.true
    ∙ ap (λ r. r ∷ rest) (sym c.row-item.is) in
    record {
      same = c.in_ok-release_in.ensures.same ∙ inv.same;
      goes = λ profile spare.
          then_moves (λ base x _ y. (y ≡ record x { kept = record (x.kept) { shelf = y.kept.shelf } })
          × IsSeen (spare_each rest spare) profile new base y) _ _ new tt (Ok tt) (inv.goes profile spare)
          (c.in_ok-release_in.ensures.released profile (spare_each rest spare))
          (λ base x y it mid. seen_looser (spare_each (drop i rows) spare)
          (spare_each (row ∷ []) (spare_each rest spare)) profile _ base y
          (λ z h. spared_apart row spare rest z (subst (λ rs. spare_each rs spare z ≡ true) left h)) mid.1)
          (λ base x y z u it mid last. (shelf_again x y z mid.0 last.0, last.1));
    }

pub returns-in_err-release_in : goal.returns-in_err-release_in
returns-in_err-release_in g c = record {
  same = search rules;
  released = λ profile spare.
      let p = err_from_is_err_and c.from_residual.result c.from_residual.ensures.1 in
      let inv = c.loop-row.invariant in
      let new = state g.S.Store c.release_in.new.tx.conn.now in
      let rows = c.args.rows.now in
      let i = c.loop-row.row-index in
      let row = c.row-item.result in
      let rest = drop (i + 1) rows in
      let left : drop i rows ≡ row ∷ rest = drop_more rows i row c.loop-row-test.true
      ∙ ap (λ r. r ∷ rest) (sym c.row-item.is) in
      rw (p.1, p.2) (move_failed _ new c.in_err-release_in.field-0.0
      (then_moves (λ base x _ y. y ≡ y) _ _ new tt (Err c.in_err-release_in.field-0.0) (inv.goes profile spare)
      (c.in_err-release_in.ensures.released profile (spare_each rest spare))
      (λ base x y it mid. seen_looser (spare_each (drop i rows) spare) (spare_each (row ∷ []) (spare_each rest spare))
      profile _ base y (λ z h. spared_apart row spare rest z (subst (λ rs. spare_each rs spare z ≡ true) left h)) mid.1)
      (λ base x y z u it mid last. refl))
      (λ base x it. it));
}

pub returns : goal.returns
returns g c = record {
  same = search rules;
  released = λ profile spare.
      let now = state g.S.Store c.loop-row.tx.conn.now in
      let rows = c.args.rows.now in
      let i = c.loop-row.row-index in
      let over : length rows ≤ i = omega (arith, c.loop-row-test.false) in
      let none = drop_of_length-le rows over in
      moves_less (λ base x _ y. (y ≡ record x { kept = record (x.kept) { shelf = y.kept.shelf } })
      × IsSeen spare profile now base y) _ now (Ok tt) (c.loop-row.invariant.goes profile spare) (λ base x it. it)
      (λ base x y t it last. (
        last.0,
        seen_looser (spare_each (drop i rows) spare) spare profile now base y
            (λ z h. spared_none spare z (subst (λ rs. spare_each rs spare z ≡ true) none h)) last.1,
      ));
}
