use Rattle.std.proofs.Common.{◌≡◌, inl, inr, Ok, Err, true, sym, subst, ◌∙◌, rules, w64, to_z, of_z, to_z-of_z}
use Rattle.std.proofs.lemmas.Result.{err_from_is_err_and}
use Rattle.sqlite.specs.Held.{state}
use Rattle.mm_store.specs.Blobs.{NamesBlob}
use Rattle.mm_store.specs.Kept.{IsNamed, tile_id, medium_id}
use Rattle.mm_blobs.specs.Views.{View, IsSeen, TellsWhether}
use Rattle.mm_blobs.proofs.Moving.{moves_as, then_moves, move_failed}
use Rattle.mm_blobs.proofs.Keeping.{none_of_three}
use Rattle.mm_blobs.proofs.blobs.is_named.Goals as goal

pub returns-then-branch : goal.returns-then-branch
returns-then-branch g c = record {
  same = search rules;
  found = λ profile spare.
      let n = to_z w64 (of_z w64 c.args.id) in
      let back : n ≡ c.args.id = search (rules, to_z-of_z) in
      moves_as _ _ c.in_ok-tile_names.field-0 true (c.in_ok-tile_names.ensures.found profile spare) (λ base x it. it)
      (λ base x y it last. (
        last.0,
        last.1,
        subst (IsNamed y.kept) back
            (inl (subst (TellsWhether (NamesBlob tile_id y.kept.tiles n)) c.if-branch.true last.2)),
      ));
}

pub returns-in_err-tile_names : goal.returns-in_err-tile_names
returns-in_err-tile_names g c = record {
  same = search rules;
  found = λ profile spare.
      let p = err_from_is_err_and c.from_residual.result c.from_residual.ensures.1 in
      rw (p.1, p.2) (move_failed _ _ _ (c.in_err-tile_names.ensures.found profile spare) (λ base x it. it));
}

pub returns-then-branch-2 : goal.returns-then-branch-2
returns-then-branch-2 g c = record {
  same = search rules;
  found = λ profile spare.
      let new = state g.S.Store c.medium_names.new.tx.conn.now in
      let n = to_z w64 (of_z w64 c.args.id) in
      let back : n ≡ c.args.id = search (rules, to_z-of_z) in
      let second = c.in_ok-medium_names in
      moves_as _ new second.field-0 true
      (then_moves (λ base x it z. (z ≡ x) × IsSeen spare profile new base z
      × TellsWhether (NamesBlob medium_id z.kept.media n) it) _ _ new c.in_ok-tile_names.field-0 (Ok second.field-0)
      (c.in_ok-tile_names.ensures.found profile spare) (second.ensures.found profile spare)
      (λ base x y it mid. mid.1) (λ base x y z t it mid last. (last.0 ∙ mid.0, last.1, last.2)))
      (λ base x it. it) (λ base x y it last. (
        last.0,
        last.1,
        subst (IsNamed y.kept) back
            (inr (inl (subst (TellsWhether (NamesBlob medium_id y.kept.media n)) c.if-branch-2.true last.2))),
      ));
}

pub returns-in_err-medium_names : goal.returns-in_err-medium_names
returns-in_err-medium_names g c = record {
  same = search rules;
  found = λ profile spare.
      let p = err_from_is_err_and c.from_residual-in_err-medium_names.result
      c.from_residual-in_err-medium_names.ensures.1 in
      let new = state g.S.Store c.medium_names.new.tx.conn.now in
      let second = c.in_err-medium_names in
      rw (p.1, p.2) (move_failed _ new second.field-0.0
      (then_moves (λ base x it z. z ≡ x) _ _ new c.in_ok-tile_names.field-0 (Err second.field-0.0)
      (c.in_ok-tile_names.ensures.found profile spare) (second.ensures.found profile spare) (λ base x y it mid. mid.1)
      (λ base x y z t it mid last. last.0 ∙ mid.0))
      (λ base x it. it));
}

pub returns : goal.returns
returns g c = record {
  same = search rules;
  found = λ profile spare.
      let mid = state g.S.Store c.medium_names.new.tx.conn.now in
      let new = state g.S.Store c.piece_names.new.tx.conn.now in
      let n = to_z w64 (of_z w64 c.args.id) in
      let back : n ≡ c.args.id = search (rules, to_z-of_z) in
      let first = c.in_ok-tile_names in
      let second = c.in_ok-medium_names in
      then_moves (λ base x it z. (z ≡ x) × IsSeen spare profile new base z × TellsWhether (IsNamed z.kept c.args.id) it)
      _ mid new second.field-0 c.piece_names.result
      (then_moves (λ base x it z. (z ≡ x) × IsSeen spare profile mid base z × ¬ NamesBlob tile_id z.kept.tiles n
      × TellsWhether (NamesBlob medium_id z.kept.media n) it) _ _ mid first.field-0 (Ok second.field-0)
      (first.ensures.found profile spare)
      (second.ensures.found profile spare) (λ base x y it seen. seen.1)
      (λ base x y z t it seen last. (
        last.0 ∙ seen.0,
        last.1,
        subst (λ (v : View). ¬ NamesBlob tile_id v.kept.tiles n)
            (sym last.0) (subst (TellsWhether (NamesBlob tile_id y.kept.tiles n)) c.if-branch.false seen.2),
        last.2,
      )))
      (c.piece_names.ensures.found profile spare) (λ base x y it seen. seen.1)
      (λ base x y z t it seen last. (
        last.0 ∙ seen.0,
        last.1,
        subst (λ k. TellsWhether (IsNamed z.kept k) t) back
            (none_of_three z.kept n t (subst (λ (v : View). ¬ NamesBlob tile_id v.kept.tiles n) (sym last.0) seen.2)
            (subst (λ (v : View). ¬ NamesBlob medium_id v.kept.media n) (sym last.0)
            (subst (TellsWhether (NamesBlob medium_id y.kept.media n)) c.if-branch-2.false seen.3)) last.2),
      ));
}
