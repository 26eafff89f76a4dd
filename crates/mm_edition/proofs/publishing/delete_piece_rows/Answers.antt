use Rattle.std.proofs.Common.{◌≡◌, ℤ, [], ◌∷◌, true, Ok, ap, rules}
use Rattle.std.specs.FinMap.{retain_keys}
use Rattle.sqlite.specs.declared.types.Value.TheVariants.{Text as Words}
use Rattle.sqlite.specs.Tree.{with_tree}
use Rattle.sqlite.specs.Held.{state}
use Rattle.sql_forms.specs.Tables.{without}
use Rattle.sql_forms.proofs.Deletes.{has_deleted}
use Rattle.mm_definitions.specs.Effects.{is_other}
use Rattle.mm_store.proofs.Deleting as statement
use Rattle.mm_store.specs.Kept.{no_spare}
use Rattle.mm_store.specs.Removals.{kept_without_edition}
use Rattle.mm_staging.specs.Alone.{FreedByPiecesAlone}
use Rattle.mm_store.proofs.Keys.{by_text}
use Rattle.mm_blobs.specs.Views.{View, IsSeen}
use Rattle.mm_blobs.proofs.Moving.{moves_run, moves_less, seen}
use Rattle.mm_staging.proofs.Freeing.{holds_without_pieces}
use Rattle.mm_edition.proofs.publishing.delete_piece_rows.Goals as goal

pub returns : goal.returns
returns g c = record {
  same = search rules;
  gone = λ profile more.
      let old = state g.S.Store c.args.tx.now.conn.now in
      let new = state g.S.Store c.run.new.tx.conn.now in
      let edition = c.args.edition.now in
      moves_less (λ base x _ y. (y.content ≡ record (x.content)
      { pieces = retain_keys x.content.pieces (λ k. is_other edition k.edition) }) × IsSeen more profile new base y) old
      new c.run.result
      (moves_run profile old new _ _ no_spare (λ db. with_tree db 25 (without (by_text edition) (db 25)))
      (λ x. (z : ℤ) → FreedByPiecesAlone edition x.kept z → more z ≡ true)
      (λ x. record {
        content = record (x.content) { pieces = retain_keys x.content.pieces (λ k. is_other edition k.edition) };
        kept = kept_without_edition edition x.kept;
      }) more c.run.result c.run.ensures.run
      (λ count ready h. has_deleted _ _ _ _ _ statement.delete_pieces old new ready (Words edition ∷ []) _
      (search rules) (Ok count) h)
      (λ ready x h freed. holds_without_pieces edition more profile.version (seen old) x h freed))
      (λ base x it. it) (λ base x y t it last. (ap (λ (v : View). v.content) last.0, last.1));
}
