use Rattle.std.proofs.Common.{◌≡◌, Some, sym, ap, ◌∙◌, rules, w64, to_z, of_z, to_z-of_z}
use Rattle.std.proofs.lemmas.Result.{IfOk-weaker}
use Rattle.std.proofs.lemmas.Result.{err_from_is_err_and}
use Rattle.sqlite.specs.Held.{state}
use Rattle.mm_store.specs.Blobs.{bytes_at}
use Rattle.mm_store.specs.Rows.{MediumRow}
use Rattle.mm_store.proofs.Keys.{same_words, same_int}
use Rattle.mm_blobs.specs.Views.{IsSeen}
use Rattle.mm_blobs.proofs.Moving.{move_made, move_failed}
use Rattle.mm_blobs.proofs.Releasing.{commits_nothing}
use Rattle.mm_reads.specs.Told.{ShowsMedium}
use Rattle.mm_reads.proofs.media_items.medium_in.Goals as goal

pub returns-in_err-blob : goal.returns-in_err-blob
returns-in_err-blob g c = record {
  same = search rules;
  found = λ profile spare.
      let p = err_from_is_err_and c.from_residual.result c.from_residual.ensures.1 in
      rw (p.1, p.2) (record {
        survives = commits_nothing _;
        on = λ clean base x it. it.back;
        moved = λ clean base x it. tt;
        faults = c.in_err-blob.ensures.fault;
      });
}

pub returns-in_err-content_type : goal.returns-in_err-content_type
returns-in_err-content_type g c = record {
  same = search rules;
  found = λ profile spare.
      let p = err_from_is_err_and c.from_residual-in_err-content_type.result
      c.from_residual-in_err-content_type.ensures.1 in
      rw (p.1, p.2) (record {
        survives = commits_nothing _;
        on = λ clean base x it. it.back;
        moved = λ clean base x it. tt;
        faults = c.in_err-content_type.ensures.fault;
      });
}

pub returns : goal.returns
returns g c = record {
  same = search rules;
  found = λ profile spare.
      let new = state g.S.Store c.bytes_of.new.tx.conn.now in
      let row = c.args.row.now in
      let blob = c.in_ok-blob.blob in
      let back : to_z w64 (of_z w64 blob) ≡ blob = search (rules, to_z-of_z) in
      let bytes = c.in_ok-bytes.bytes in
      move_made (λ base x m y. (y ≡ x) × IsSeen spare profile new base y
      × ((r : MediumRow) → ShowsMedium row r → (bytes_at y.kept.shelf r.blob ≡ Some m.bytes)
      × (r.content_type ≡ m.content_type))) _ new bytes c.medium.result
      ((rw back at c.in_ok-bytes.ensures.found) profile spare) c.medium.ensures.fault
      (IfOk-weaker c.medium.result _ _ (λ m made base x y last. (
        last.0,
        last.1,
        λ r shown.
            let named : r.blob ≡ blob = same_int (sym shown.blob ∙ c.in_ok-blob.ensures.shown) in (
              ap (bytes_at y.kept.shelf) named ∙ last.2
                  ∙ ap Some (sym made.0),
              same_words (sym shown.content_type ∙ c.in_ok-content_type.ensures.shown)
                  ∙ sym made.1,
            ),
      )) c.medium.ensures.shown);
}

pub returns-in_err-bytes : goal.returns-in_err-bytes
returns-in_err-bytes g c = record {
  same = search rules;
  found = λ profile spare.
      let p = err_from_is_err_and c.from_residual-in_err-bytes.result c.from_residual-in_err-bytes.ensures.1 in
      rw (p.1, p.2) (move_failed _ _ _ (c.in_err-bytes.ensures.found profile spare) (λ base x it. it));
}
