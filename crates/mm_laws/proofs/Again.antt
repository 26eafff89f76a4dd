-- A piece that is staged again changes nothing, and a piece is its command.
use Rattle.std.proofs.Common.{◌≡◌, ◌↔◌, ℕ, ◌+◌, ℤ, pos, ◌≤ℤ◌, true, not, ◌&&◌, int_lt, int_le, [], Some, None, refl}
use Rattle.std.proofs.Common.{sym, ap, ◌∙◌, arith, Bool, false, if◌then◌else◌, Option}
use Rattle.std.proofs.lemmas.Int.{ints}
use Rattle.std.specs.FinMap.{get, contains_key}
use Rattle.std.proofs.lemmas.Bool.{not-false, and_parts}
use Rattle.mm_definitions.specs.Keys.{Text, piece}
use Rattle.mm_definitions.specs.Package.{Package, PieceRow, PiecesPart}
use Rattle.mm_definitions.specs.Pieces.{piece_row, same_piece, piece_by_kind, if_spelled, row_piece}
use Rattle.mm_definitions.specs.Stamp.{stamp}
use Rattle.mm_definitions.specs.Conditions.{least, is_open, piece_count, has_equal_piece}
use Rattle.mm_definitions.specs.Step.{reasons, refused_piece, publishing, refusal, done, unless_refused, step}
use Rattle.mm_definitions.specs.declared.commands.Piece.{Piece}
use Rattle.mm_definitions.specs.declared.commands.Command.TheVariants as commands
use Rattle.mm_definitions.proofs.Parts.{either_false, put_again, same_some}
use Rattle.mm_definitions.proofs.KeyLaws.{texts, numbers, piece_keys}
use Rattle.mm_laws.proofs.Reasons.{none_holds, and_false, stands_where}
use Rattle.mm_laws.proofs.KindFacts.{are_same, at_true}
use Rattle.mm_laws.proofs.Closed.{no_refusal}
use Rattle.mm_laws.proofs.Published.{read_back}

pub same_row : (a b : PieceRow) → same_piece a b ≡ true → a ≡ b
same_row a b e =
    let bytes = and_parts _ _ e in
    let t2 = and_parts _ _ bytes.0 in
    let t1 = and_parts _ _ t2.0 in
    let k7 = and_parts _ _ t1.0 in
    let k6 = and_parts _ _ k7.0 in
    let k5 = and_parts _ _ k6.0 in
    let k4 = and_parts _ _ k5.0 in
    let k3 = and_parts _ _ k4.0 in
    let k2 = and_parts _ _ k3.0 in
    let k1 = and_parts _ _ k2.0 in
    let name = and_parts _ _ k1.0 in
    λ i. record {
      kind = are_same texts a.kind b.kind name.0 i;
      name = are_same texts a.name b.name name.1 i;
      k1 = are_same numbers a.k1 b.k1 k1.1 i;
      k2 = are_same numbers a.k2 b.k2 k2.1 i;
      k3 = are_same numbers a.k3 b.k3 k3.1 i;
      k4 = are_same numbers a.k4 b.k4 k4.1 i;
      k5 = are_same numbers a.k5 b.k5 k5.1 i;
      k6 = are_same numbers a.k6 b.k6 k6.1 i;
      k7 = are_same numbers a.k7 b.k7 k7.1 i;
      t1 = are_same texts a.t1 b.t1 t1.1 i;
      t2 = are_same texts a.t2 b.t2 t2.1 i;
      bytes = are_same texts a.bytes b.bytes bytes.1 i;
    }

spelled_only : (r : PieceRow) (v : Option Piece) (q : Piece) → if_spelled r v ≡ Some q → r ≡ piece_row q
spelled_only r None q e = absurd (let f : ◌≡◌ {A = Option Piece} None (Some q) = e in cc)
spelled_only r (Some x) q e = by_test (same_piece (piece_row x) r) refl e where
  by_test : (b : Bool) → same_piece (piece_row x) r ≡ b → (if b then Some x else None) ≡ Some q → r ≡ piece_row q
  by_test true t f = sym (same_row (piece_row x) r t) ∙ ap piece_row (same_some f)
  by_test false t f = absurd (let g : ◌≡◌ {A = Option Piece} None (Some q) = f in cc)

-- a row spells a piece exactly where it is that piece's row
pub spells : (r : PieceRow) (q : Piece) → (row_piece r ≡ Some q) ↔ (r ≡ piece_row q)
spells r q = (λ e. spelled_only r (piece_by_kind r) q e, λ e. ap row_piece e ∙ read_back q)

le_holds : (a b : ℤ) → a ≤ℤ b → int_le a b ≡ true
le_holds a b h = grind (arith, ints)

pub stage_again : (p : Package) (edition : Text) (number : ℤ) (q : Piece) (moment : ℕ)
    → refusal p (commands.Stage edition number q) ≡ None
    → number ≤ℤ pos (piece_count p edition) → step p (commands.Stage edition number q) moment ≡ p
stage_again p edition number q moment none low =
    let c = commands.Stage edition number q in
    let r = none_holds (reasons p c) (no_refusal (least (reasons p c)) (refused_piece (publishing p c [])) none) in
    let opened : is_open p edition ≡ true = stands_where (contains_key p.editions edition) (is_open p edition) r.1.1.1.0
    (not-false (contains_key p.editions edition) r.0) in
    let differs = (either_false (int_lt (pos (piece_count p edition + 1)) number)
    (int_le number (pos (piece_count p edition)) && not (has_equal_piece p edition number q))
    (and_false (is_open p edition) _ r.1.0 opened)).1 in
    let equal : has_equal_piece p edition number q ≡ true =
    not-false _ (and_false (int_le number (pos (piece_count p edition))) _ differs
    (le_holds number (pos (piece_count p edition)) low)) in
    let there = at_true (same_piece (piece_row q)) (get p.pieces (piece edition number)) equal in
    ap (λ v. unless_refused v (done p c (stamp moment)) p) none
    ∙ ap (λ (m : PiecesPart). record p { pieces = m })
    (put_again piece_keys p.pieces (piece edition number) (piece_row q)
    (there.1 ∙ ap Some (sym (same_row (piece_row q) there.0 there.2))))
