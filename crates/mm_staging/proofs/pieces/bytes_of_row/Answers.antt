use Rattle.std.proofs.Common.{◌≡◌, ℤ, Some, None, [], Option, refl, sym, ap, subst, ◌∙◌, rules, w64, to_z, of_z}
use Rattle.std.proofs.Common.{to_z-of_z}
use Rattle.std.proofs.lemmas.Result.{err_from_is_err_and}
use Rattle.sqlite.specs.Held.{state}
use Rattle.sqlite.specs.Order.{column}
use Rattle.mm_store.specs.Blobs.{StandsAt}
use Rattle.mm_store.specs.Rows.{maybe}
use Rattle.mm_store.proofs.Keys.{maybe_is}
use Rattle.mm_blobs.specs.Views.{IsSeen}
use Rattle.mm_blobs.proofs.Moving.{moves_as, move_failed}
use Rattle.mm_blobs.proofs.Releasing.{commits_nothing}
use Rattle.mm_staging.specs.Kept.{bytes_or_none}
use Rattle.mm_staging.proofs.pieces.bytes_of_row.Goals as goal

pub returns-in_ok-bytes_of-in-Some : goal.returns-in_ok-bytes_of-in-Some
returns-in_ok-bytes_of-in-Some g c = record {
  same = search rules;
  told = λ profile spare.
      let s0 = state g.S.Store c.args.tx.now.conn.now in
      let s1 = state g.S.Store c.bytes_of.new.tx.conn.now in
      let row = c.args.row.now in
      let blob = c.in-Some.blob in
      let bytes = c.in_ok-bytes_of-in-Some.field-0 in
      let back : to_z w64 (of_z w64 blob) ≡ blob = search (rules, to_z-of_z) in
      let named : column row 11 ≡ maybe (Some blob) = c.in_ok-blob.ensures.shown ∙ ap maybe c.in-Some.is in
      moves_as {Less = λ base x it y. (y ≡ x) × IsSeen spare profile s1 base y
      × ((o : Option ℤ) → column row 11 ≡ maybe o → StandsAt y.kept.shelf o (bytes_or_none it))} s0 s1 bytes
      (Some bytes) ((rw back at c.in_ok-bytes_of-in-Some.ensures.found) profile spare) (λ base x it. it.1)
      (λ base x y it last. (
        last.0,
        last.1,
        λ o is. subst
            (λ (q : Option ℤ). StandsAt y.kept.shelf q (bytes_or_none (Some bytes)))
            (maybe_is (Some blob) o (sym named ∙ is))
            last.2,
      ));
}

pub returns-in_err-bytes_of-in-Some : goal.returns-in_err-bytes_of-in-Some
returns-in_err-bytes_of-in-Some g c = record {
  same = search rules;
  told = λ profile spare.
      let p = err_from_is_err_and c.from_residual-in_err-bytes_of-in-Some.result
      c.from_residual-in_err-bytes_of-in-Some.ensures.1 in
      rw (p.1, p.2) (move_failed _ _ _ (c.in_err-bytes_of-in-Some.ensures.found profile spare) (λ base x it. it.1));
}

pub returns-in-None : goal.returns-in-None
returns-in-None g c = record {
  same = search rules;
  told = λ profile spare.
      let named = c.in_ok-blob.ensures.shown ∙ ap maybe c.in-None.is in
      record {
        survives = commits_nothing _;
        on = λ clean base x it. it.1.back;
        moved = λ clean base x it. (
          it.0,
          x,
          (
            refl,
            it.1,
            λ o is. subst (λ (q : Option ℤ). StandsAt x.kept.shelf q []) (maybe_is None o (sym named ∙ is))
                refl,
          ),
        );
        faults = tt;
      };
}

pub returns-in_err-blob : goal.returns-in_err-blob
returns-in_err-blob g c = record {
  same = search rules;
  told = λ profile spare.
      let p = err_from_is_err_and c.from_residual.result c.from_residual.ensures.1 in
      rw (p.1, p.2) (record {
        survives = commits_nothing _;
        on = λ clean base x it. it.1.back;
        moved = λ clean base x it. tt;
        faults = c.in_err-blob.ensures.fault;
      });
}
