use Rattle.std.proofs.Common.{◌≡◌, ◌⊎◌, ℤ, true, Some, rules}
use Rattle.std.specs.FinMap.{get}
use Rattle.sqlite.specs.Held.{state}
use Rattle.mm_store.specs.Blobs.{Blob}
use Rattle.mm_store.specs.Kept.{no_spare, IsNamed}
use Rattle.mm_blobs.specs.Views.{IsSeen, spare_each}
use Rattle.mm_blobs.proofs.Keeping.{kept_in}
use Rattle.mm_blobs.proofs.Moving.{lists, moves_less, seen}
use Rattle.mm_blobs.proofs.Opening.{seen_named}
use Rattle.mm_blobs.proofs.Sweeping.{unnamed_same, each_named}
use Rattle.mm_blobs.proofs.blobs.unnamed_blobs.Goals as goal

pub returns : goal.returns
returns g c = record {
  same = search rules;
  listed = λ profile spare.
      let old = state g.S.Store c.args.tx.now.conn.now in
      let new = state g.S.Store c.all.new.tx.conn.now in
      moves_less (λ base x rows y. (y ≡ x) × IsSeen (spare_each rows.items no_spare) profile new base y) old new
      c.all.result
      (lists profile old new _ _ spare (λ rows. rows.items) (λ x rows. (z : ℤ) (b : Blob) → get x.kept.shelf z ≡ Some b
      → IsNamed x.kept z ⊎ (spare_each rows.items no_spare z ≡ true)) c.all.result c.all.ensures.listed
      (λ rows ready shown. (
        unnamed_same old new ready.schema_is _ (search rules) rows.items shown,
        λ x h z b is. each_named old new ready.schema_is _ (search rules) rows.items shown spare x.kept x.content
            (kept_in spare spare profile.version (seen old) x h) z b is,
      )))
      (λ base x it. it) (λ base x y rows it last.
      (last.0, seen_named spare (spare_each rows.items no_spare) profile new base y last.2 last.1));
}
