use Rattle.std.proofs.Common.{◌≡◌, [], ◌∷◌, ◌∙◌, sym, rules, is_some}
use Rattle.sqlite.specs.declared.types.Value.TheVariants.{Int}
use Rattle.sqlite.specs.Held.{state}
use Rattle.sql_forms.proofs.Keys.{columns_are}
use Rattle.sql_forms.proofs.Selects.{selects_any}
use Rattle.mm_store.proofs.Selecting as statement
use Rattle.mm_store.specs.Blobs.{NamesBlob}
use Rattle.mm_store.specs.Kept.{piece_id}
use Rattle.mm_store.specs.Rows.{staged_row}
use Rattle.mm_blobs.specs.Views.{TellsWhether}
use Rattle.mm_blobs.proofs.Moving.{looks, seen}
use Rattle.mm_blobs.proofs.Keeping.{kept_in, told_names, at_id, hits_id, only_id}
use Rattle.mm_blobs.proofs.blobs.piece_names.Goals as goal

pub returns : goal.returns
returns g c = record {
  same = search rules;
  found = λ profile spare.
      let old = state g.S.Store c.args.tx.now.conn.now in
      let new = state g.S.Store c.exists.new.tx.conn.now in
      let id = c.args.id in
      looks profile old new _ _ spare (λ it first. it ≡ is_some first)
      (λ x it. TellsWhether (NamesBlob piece_id x.kept.pieces id) it) c.exists.result c.exists.ensures.asked
      (λ it first ready shown gives.
      let read = selects_any _ _ _ _ _ _ statement.piece_of_blob old new ready.schema_is (Int id ∷ []) _ (search rules)
      first shown in (
        read.0,
        λ x h. told_names piece_id staged_row (seen old 25) x.kept.pieces
            (kept_in spare spare profile.version (seen old) x h).pieces id (at_id 14 id)
            (λ r k i is. hits_id 14 id r (piece_id i) (columns_are r (staged_row k i) 13 is))
            (λ r k i is. only_id 14 id r (piece_id i) (columns_are r (staged_row k i) 13 is)) it (sym (gives ∙ read.1)),
      ));
}
