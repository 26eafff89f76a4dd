use Rattle.std.proofs.Common.{◌≡◌, Some, refl, sym, ap, subst, ◌∙◌, rules, w64, to_z, of_z, to_z-of_z}
use Rattle.sqlite.specs.Held.{state}
use Rattle.mm_blobs.specs.Entries.{spare_freed}
use Rattle.mm_blobs.specs.Views.{spare_but, IsSeen}
use Rattle.mm_blobs.proofs.Keeping.{same_but_shelf}
use Rattle.mm_blobs.proofs.Moving.{moves_less}
use Rattle.mm_blobs.proofs.Opening.{seen_looser}
use Rattle.mm_blobs.proofs.Naming.{freed_only}
use Rattle.mm_blobs.proofs.Releasing.{commits_nothing}
use Rattle.mm_blobs.proofs.blobs.release_freed.Goals as goal

pub returns-in-Some : goal.returns-in-Some
returns-in-Some g c = record {
  same = search rules;
  released = λ profile spare.
      let new = state g.S.Store c.release.new.tx.conn.now in
      let id = to_z w64 (of_z w64 c.in-Some.id) in
      let back : id ≡ c.in-Some.id = search (rules, to_z-of_z) in
      let freed = c.args.freed in
      let is : freed ≡ Some id = c.in-Some.is ∙ ap Some (sym back) in
      moves_less (λ base x _ y. (y ≡ record x { kept = record (x.kept) { shelf = y.kept.shelf } })
      × IsSeen spare profile new base y) _ new c.release.result
      (c.release.ensures.released profile (spare_freed freed spare)) (λ base x it. it.1)
      (λ base x y t it last. (
        last.0,
        seen_looser (spare_but id (spare_freed freed spare)) spare profile new base y
            (freed_only freed id spare is) last.1,
      ));
}

pub returns-in-None : goal.returns-in-None
returns-in-None g c = record {
  same = search rules;
  released = λ profile spare. record {
    survives = commits_nothing _;
    on = λ clean base x it. it.1.back;
    moved = λ clean base x it. (
      it.0,
      x,
      (
        same_but_shelf x x refl,
        subst (λ o. IsSeen (spare_freed o spare) profile (state g.S.Store c.args.tx.now.conn.now)
            base x) c.in-None.is it.1,
      ),
    );
    faults = tt;
  };
}
