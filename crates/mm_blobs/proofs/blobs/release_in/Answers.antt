use Rattle.std.proofs.Common.{◌≡◌, [], ◌∷◌, sym, ap, ◌∙◌, rules, w64, to_z, of_z, to_z-of_z}
use Rattle.sqlite.specs.declared.types.Value.TheVariants.{Int}
use Rattle.sqlite.specs.Held.{state}
use Rattle.mm_blobs.specs.Views.{spare_but, spare_each, IsSeen}
use Rattle.mm_blobs.proofs.Moving.{moves_less}
use Rattle.mm_blobs.proofs.Opening.{seen_looser}
use Rattle.mm_blobs.proofs.Releasing.{released_one}
use Rattle.mm_blobs.proofs.blobs.release_in.Goals as goal

pub returns : goal.returns
returns g c = record {
  same = search rules;
  released = λ profile spare.
      let new = state g.S.Store c.release.new.tx.conn.now in
      let row = c.args.row.now in
      let id = to_z w64 (of_z w64 c.in_ok-id.id) in
      let back : id ≡ c.in_ok-id.id = search (rules, to_z-of_z) in
      let each = spare_each (row ∷ []) spare in
      moves_less (λ base x _ y. (y ≡ record x { kept = record (x.kept) { shelf = y.kept.shelf } })
      × IsSeen spare profile new base y) _ new c.release.result (c.release.ensures.released profile each)
      (λ base x it. it)
      (λ base x y t it last. (
        last.0,
        seen_looser (spare_but id each) spare profile new base y
            (released_one row spare id (c.in_ok-id.ensures.shown ∙ ap Int (sym back))) last.1,
      ));
}
