use Rattle.std.proofs.Common.{◌≡◌, ◌∷◌, Ok, None, refl, ap, rules}
use Rattle.std.specs.FinMap.{get, insert}
use Rattle.sqlite.specs.declared.types.Value.TheVariants.{Int, Null}
use Rattle.sqlite.specs.Tree.{with_tree, put_row}
use Rattle.sqlite.specs.Edit.{next_rowid}
use Rattle.sqlite.specs.Held.{state}
use Rattle.sql_forms.proofs.Keys.{chosen_is_free}
use Rattle.sql_forms.proofs.Inserts.{has_inserted}
use Rattle.mm_definitions.specs.Keys.{piece}
use Rattle.mm_store.proofs.Inserting as statement
use Rattle.mm_store.specs.Blobs.{StandsAt}
use Rattle.mm_store.specs.Kept.{piece_with}
use Rattle.mm_store.specs.Rows.{staged_row}
use Rattle.mm_store.proofs.Parts.{puts}
use Rattle.mm_store.proofs.Keys as parts
use Rattle.mm_blobs.specs.Views.{View, IsSeen}
use Rattle.mm_blobs.proofs.Keeping.{kept_in}
use Rattle.mm_blobs.proofs.Moving.{moves_run, moves_less, seen}
use Rattle.mm_blobs.proofs.Naming.{keeps_piece, holds_pieces}
use Rattle.mm_staging.specs.Kept.{written_row, staged_of, spare_named}
use Rattle.mm_staging.proofs.Naming.{still_spared, no_piece_named, or_maybe, typed_maybe, untold}
use Rattle.mm_staging.proofs.pieces.insert_row.Goals as goal

pub returns : goal.returns
returns g c = record {
  same = search rules;
  named = λ profile spare.
      let old = state g.S.Store c.args.tx.now.conn.now in
      let new = state g.S.Store c.run.new.tx.conn.now in
      let a = c.args in
      let key = piece a.edition.now a.number in
      let bytes = a.written.bytes.now in
      let value = staged_of a.written a.blob in
      let row = staged_row key value in
      let more = spare_named a.blob spare in
      moves_less (λ base x _ y. (y.content ≡ record (x.content)
      { pieces = insert x.content.pieces key (written_row a.written) }) × IsSeen more profile new base y) old new
      c.run.result
      (moves_run profile old new _ _ spare (λ db. with_tree db 25 (put_row (Int (next_rowid (db 25)) ∷ row) (db 25)))
      (λ x. StandsAt x.kept.shelf a.blob bytes × (get x.content.pieces key ≡ None))
      (λ x. record {
        content = record (x.content) { pieces = insert x.content.pieces key (piece_with value bytes) };
        kept = record (x.kept) { pieces = insert x.kept.pieces key value };
      }) more c.run.result c.run.ensures.run
      (λ count ready h. has_inserted _ _ _ _ _ _ statement.insert_piece old new ready row _ (Ok count) Null row refl
      refl (typed_maybe a.blob) (search (rules, or_maybe)) h)
      (λ ready x h when.
      let kept = kept_in spare spare profile.version (seen old) x h in
      let free = untold x.kept.shelf (get x.kept.pieces key) (get x.content.pieces key) (kept.pieces_told key) when.1 in
      holds_pieces spare more profile.version (seen old) x h _ _ (insert x.content.pieces key (piece_with value bytes))
      (keeps_piece spare more (seen old) x.kept x.content kept _ key value bytes
      (puts parts.pieces (seen old 25) x.kept.pieces kept.pieces key value (Int (next_rowid (seen old 25)) ∷ row) free
      refl (chosen_is_free (seen old 25) row (ready.rows 25))) when.0
      (still_spared a.blob spare) (λ z named other. no_piece_named (get x.kept.pieces key) named.0 free named.1))))
      (λ base x it. it) (λ base x y t it last. (ap (λ (v : View). v.content) last.0, last.1));
}
