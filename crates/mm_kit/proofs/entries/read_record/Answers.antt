use Rattle.mm_definitions.specs.Bounds.{current}
use Rattle.std.proofs.Common.{refl, subst, rules, w64, Ok, Err, map}
use Rattle.std.proofs.Math.Facts.{to_z-of_z}
use Rattle.std.proofs.lemmas.Result.{err_from_is_err_and}
use mir.Val.{SFits}
use Rattle.mm_definitions.specs.Reading.{ReadsTo}
use Rattle.mm_definitions.specs.Records.{HoldsAgainstPiece, IsLeast, SpellsPiece}
use Rattle.mm_kit.specs.Entries.{IsLeftToAsk, file_of, without_file}
use Rattle.mm_kit.proofs.EntryFacts.{number_refused, piece_refused, placed_entry, placed_least}
use Rattle.mm_kit.proofs.entries.read_record.Goals as goal

pub returns-in-Ok-read_number : goal.returns-in-Ok-read_number
returns-in-Ok-read_number c =
    let fits : SFits w64 c.in-Ok-read_number.number = search rules in
    let (spells, low, high) = c.in-Ok-read_number.ensures.ok in
    let reads = rw (c.as_slice.ensures.value, c.in-Ok.ensures.shown) at c.read_piece-piece.ensures.reads in
    let is = subst (ReadsTo (SpellsPiece current (without_file (map (λ f. f.now) c.args.rest.items)))
    (IsLeast (HoldsAgainstPiece current (without_file (map (λ f. f.now) c.args.rest.items)))))
    c.in_ok-piece-in-Ok-read_number.was reads in
    let placed : IsLeftToAsk c.args.place c.in-Ok-read_number.number (file_of (map (λ f. f.now) c.args.rest.items))
    (Err c.in-Err-place_record.number) = rw (to_z-of_z fits, c.in-Ok.ensures.file) at c.in-Err-place_record.ensures in
    rw c.refused.ensures (
      refl,
      placed_least c.args.place c.args.number.now (map (λ f. f.now) c.args.rest.items)
          c.in-Ok-read_number.number spells low high c.in_ok-piece-in-Ok-read_number.piece is _ placed,
    )

pub returns-in_err-piece-in-Ok-read_number : goal.returns-in_err-piece-in-Ok-read_number
returns-in_err-piece-in-Ok-read_number c =
    let p = err_from_is_err_and c.from_residual.result c.from_residual.ensures.1 in
    let (spells, low, high) = c.in-Ok-read_number.ensures.ok in
    let reads = rw (c.as_slice.ensures.value, c.in-Ok.ensures.shown) at c.read_piece-piece.ensures.reads in
    rw (p.1, p.2)
    (piece_refused c.args.place c.args.number.now (map (λ f. f.now) c.args.rest.items) c.in-Ok-read_number.number spells
    low high c.in_err-piece-in-Ok-read_number.field-0.0
    (subst (ReadsTo (SpellsPiece current (without_file (map (λ f. f.now) c.args.rest.items)))
    (IsLeast (HoldsAgainstPiece current (without_file (map (λ f. f.now) c.args.rest.items)))))
    c.in_err-piece-in-Ok-read_number.was reads))

pub returns-in-Ok-place_record : goal.returns-in-Ok-place_record
returns-in-Ok-place_record c =
    let fits : SFits w64 c.in-Ok-read_number.number = search rules in
    let (spells, low, high) = c.in-Ok-read_number.ensures.ok in
    let reads = rw (c.as_slice.ensures.value, c.in-Ok.ensures.shown) at c.read_piece-piece.ensures.reads in
    let is = subst (ReadsTo (SpellsPiece current (without_file (map (λ f. f.now) c.args.rest.items)))
    (IsLeast (HoldsAgainstPiece current (without_file (map (λ f. f.now) c.args.rest.items)))))
    c.in_ok-piece-in-Ok-read_number.was reads in
    let placed : IsLeftToAsk c.args.place c.in-Ok-read_number.number (file_of (map (λ f. f.now) c.args.rest.items))
    (Ok c.in-Ok-place_record.file) = rw (to_z-of_z fits, c.in-Ok.ensures.file) at c.in-Ok-place_record.ensures in
    rw c.place_entry.ensures (placed_entry c.args.place c.args.number.now (map (λ f. f.now) c.args.rest.items)
    c.in-Ok-read_number.number spells low high c.in_ok-piece-in-Ok-read_number.piece is c.in-Ok-place_record.file
    placed)

pub returns : goal.returns
returns c =
    let reads = rw (c.as_slice.ensures.value, c.in-Ok.ensures.shown) at c.read_piece-piece.ensures.reads in
    rw c.least_fault.ensures (number_refused c.args.place c.args.number.now (map (λ f. f.now) c.args.rest.items)
    c.in-Err.number c.read_piece-piece.result c.in-Err.ensures.err reads)
