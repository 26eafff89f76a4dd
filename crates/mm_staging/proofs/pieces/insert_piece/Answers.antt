use Rattle.std.proofs.Common.{◌≡◌, [], length, Ok, Some, ap, ◌∙◌, rules, w64, to_z, of_z, to_z-of_z}
use Rattle.std.specs.FinMap.{get, insert}
use Rattle.std.proofs.lemmas.List.{nil_from_length}
use Rattle.sqlite.specs.Held.{state}
use Rattle.mm_definitions.specs.Keys.{piece}
use Rattle.mm_definitions.specs.Package.{Package}
use Rattle.mm_store.specs.Blobs.{bytes_at}
use Rattle.mm_store.specs.Kept.{no_spare}
use Rattle.mm_blobs.specs.Views.{View, IsSeen, spare_too, spare_but}
use Rattle.mm_blobs.proofs.Moving.{then_moves, moves_less}
use Rattle.mm_blobs.proofs.Opening.{seen_looser}
use Rattle.mm_blobs.proofs.Viewing.{changes_where, move_failed_all}
use Rattle.mm_blobs.proofs.Naming.{named_again}
use Rattle.mm_staging.specs.Kept.{written_row}
use Rattle.mm_staging.proofs.pieces.insert_piece.Goals as goal

pub returns-then-is_empty : goal.returns-then-is_empty
returns-then-is_empty g c =
    let a = c.args in
    let s1 = state g.S.Store c.insert_row.new.tx.conn.now in
    let next = λ (p : Package). record p
    { pieces = insert p.pieces (piece a.edition.now a.number) (written_row a.written) } in
    let none : length a.written.bytes.now ≡ 0 = search (rules, c.if-is_empty.true, c.is_empty.ensures) in
    let nothing : a.written.bytes.now ≡ [] = nil_from_length _ none in
    changes_where c.insert_row.ensures.same
    (λ profile. moves_less (λ base x _ y. (y.content ≡ next x.content) × IsSeen no_spare profile s1 base y) _ s1
    c.insert_row.result
    ((rw (to_z-of_z c.ranges.number) at c.insert_row.ensures.named) profile no_spare)
    (λ base x it. (it.0, (nothing, it.1))) (λ base x y t it last. last))

pub returns : goal.returns
returns g c =
    let a = c.args in
    let s1 = state g.S.Store c.keep.new.tx.conn.now in
    let s2 = state g.S.Store c.insert_row-2.new.tx.conn.now in
    let key = piece a.edition.now a.number in
    let blob = c.in_ok-blob.blob in
    let back : to_z w64 (of_z w64 blob) ≡ blob = search (rules, to_z-of_z) in
    let next = λ (p : Package). record p { pieces = insert p.pieces key (written_row a.written) } in
    changes_where (c.insert_row-2.ensures.same ∙ c.in_ok-blob.ensures.same)
    (λ profile. then_moves
    (λ base x _ y. (y.content ≡ next x.content) × IsSeen no_spare profile s2 base y) _ s1 s2 blob c.insert_row-2.result
    (moves_less
    (λ base x id y. (y.content ≡ x.content) × IsSeen (spare_too id no_spare) profile s1 base y ×
    (bytes_at y.kept.shelf id ≡ Some a.written.bytes.now))
    _ s1 (Ok blob) (c.in_ok-blob.ensures.kept profile no_spare) (λ base x it. it.0)
    (λ base x y id it last. (ap (λ (v : View). v.content) last.0, last.1, last.2)))
    ((rw (to_z-of_z c.ranges.number, back) at c.insert_row-2.ensures.named) profile (spare_too blob no_spare))
    (λ base x y it mid. (mid.1, (mid.2, ap (λ (p : Package). get p.pieces key) mid.0 ∙ it.1)))
    (λ base x y z u it mid last. (
      last.0 ∙ ap next mid.0,
      seen_looser (spare_but blob (spare_too blob no_spare)) no_spare profile s2 base z (named_again no_spare blob)
          last.1,
    )))

pub returns-in_err-blob : goal.returns-in_err-blob
returns-in_err-blob g c =
    move_failed_all c.in_err-blob.ensures.same (λ profile. c.in_err-blob.ensures.kept profile no_spare)
    c.from_residual.ensures.1
