use Rattle.std.proofs.Common.{◌≡◌, Some, Ok, sym, ap, subst, ◌∙◌, option_map, rules, w64, to_z, of_z, to_z-of_z}
use Rattle.std.proofs.lemmas.Result.{err_from_is_err_and}
use Rattle.std.specs.FinMap.{insert}
use Rattle.sqlite.specs.Held.{state}
use Rattle.mm_definitions.proofs.Parts.{at_put}
use Rattle.mm_definitions.proofs.KeyLaws.{numbers}
use Rattle.mm_store.specs.Blobs.{Blob, blob_of, bytes_at}
use Rattle.mm_blobs.specs.Views.{View, spare_too, IsSeen, IsFound}
use Rattle.mm_blobs.specs.Moves.{IsMove}
use Rattle.mm_blobs.proofs.Moving.{moves_as, then_moves, move_failed, inside_looser}
use Rattle.mm_blobs.proofs.Keeping.{keeps_looser, kept_in, holds_still, same_but_shelf, shelf_in}
use Rattle.mm_blobs.proofs.DigestFacts.{digest_is_text}
use Rattle.mm_blobs.proofs.blobs.keep.Goals as goal

pub text_of-digest-requires : goal.text_of-digest-requires
text_of-digest-requires g c = digest_is_text c.args.bytes.now _ c.digest_of-digits.ensures

pub returns-in-Some : goal.returns-in-Some
returns-in-Some g c = record {
  same = search rules;
  kept = λ profile spare.
      let old = state g.S.Store c.args.tx.now.conn.now in
      let new = state g.S.Store c.find_blob.new.tx.conn.now in
      let bytes = c.args.bytes.now in
      let id = c.in-Some.id in
      let back : to_z w64 (of_z w64 id) ≡ id = search (rules, to_z-of_z) in
      subst (λ t. IsMove old new (IsSeen spare profile old)
      (λ base x it y. (y ≡ record x { kept = record (x.kept) { shelf = y.kept.shelf } })
      × IsSeen (spare_too it spare) profile new base y × (bytes_at y.kept.shelf it ≡ Some bytes)) (Ok t)) (sym back)
      (moves_as old new c.in_ok-id.field-0 id (c.in_ok-id.ensures.found profile spare) (λ base x it. it)
      (λ base x y it last. (
        same_but_shelf x y last.0,
        inside_looser profile spare (spare_too id spare) new base y
            (λ tables h. holds_still spare (spare_too id spare) profile.version tables y h
            (keeps_looser spare tables y.kept y.content (kept_in spare spare profile.version tables y h) id)) last.1,
        subst (IsFound y.kept.shelf bytes) c.in-Some.is last.2,
      )));
}

pub returns-in-None : goal.returns-in-None
returns-in-None g c = record {
  same = search rules;
  kept = λ profile spare.
      let old = state g.S.Store c.args.tx.now.conn.now in
      let new = state g.S.Store c.insert_blob.new.tx.conn.now in
      let bytes = c.args.bytes.now in
      then_moves (λ base x it y. (y ≡ record x { kept = record (x.kept) { shelf = y.kept.shelf } })
      × IsSeen (spare_too it spare) profile new base y × (bytes_at y.kept.shelf it ≡ Some bytes)) old _ new
      c.in_ok-id.field-0 c.insert_blob.result
      (c.in_ok-id.ensures.found profile spare) (c.insert_blob.ensures.put profile spare)
      (λ base x y it mid. (mid.1, subst (IsFound y.kept.shelf bytes) c.in-None.is mid.2))
      (λ base x y z id it mid last. (
        shelf_in x y z (insert y.kept.shelf id (blob_of bytes)) mid.0 last.0,
        last.1,
        ap (λ (k : View). bytes_at k.kept.shelf id) last.0
            ∙ ap (option_map (λ (b : Blob). b.bytes)) (at_put numbers y.kept.shelf id (blob_of bytes)),
      ));
}

pub returns-in_err-id : goal.returns-in_err-id
returns-in_err-id g c = record {
  same = search rules;
  kept = λ profile spare.
      let p = err_from_is_err_and c.from_residual.result c.from_residual.ensures.1 in
      rw (p.1, p.2) (move_failed _ _ _ (c.in_err-id.ensures.found profile spare) (λ base x it. it));
}
