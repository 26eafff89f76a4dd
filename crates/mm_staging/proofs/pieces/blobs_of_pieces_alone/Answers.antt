use Rattle.std.proofs.Common.{rules}
use Rattle.sqlite.specs.Held.{state}
use Rattle.mm_blobs.specs.Views.{ListsEach}
use Rattle.mm_blobs.proofs.Keeping.{kept_in}
use Rattle.mm_blobs.proofs.Moving.{lists, seen}
use Rattle.mm_staging.specs.Alone.{FreedByPiecesAlone}
use Rattle.mm_staging.proofs.Alone.{alone_same, each_alone}
use Rattle.mm_staging.proofs.pieces.blobs_of_pieces_alone.Goals as goal

pub returns : goal.returns
returns g c = record {
  same = search rules;
  found = λ profile spare.
      let old = state g.S.Store c.args.tx.now.conn.now in
      let new = state g.S.Store c.all.new.tx.conn.now in
      let edition = c.args.edition.now in
      lists profile old new _ _ spare (λ rows. rows.items)
      (λ x rows. ListsEach rows.items (FreedByPiecesAlone edition x.kept)) c.all.result c.all.ensures.listed
      (λ rows ready shown. (
        alone_same old new ready.schema_is edition _ (search rules) rows.items shown,
        λ x h. each_alone old new ready.schema_is edition _ (search rules) rows.items shown spare x.kept x.content
            (kept_in spare spare profile.version (seen old) x h),
      ));
}
