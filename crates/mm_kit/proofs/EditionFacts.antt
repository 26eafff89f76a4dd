-- What the read of an edition tells of its pieces.
use Rattle.std.proofs.Common.{◌≡◌, ◌∙◌, ◌≤◌, ◌+◌, inl, inr, ℕ, zero, suc, pos, ◌≤ℤ◌, List, [], ◌∷◌, ◌++◌, length}
use Rattle.std.proofs.Common.{length-append, Option, Some, None, ap, refl, sym, subst, arith}
use Rattle.std.proofs.lemmas.Int.{ints}
use Rattle.std.specs.FinMap.{get}
use Rattle.mm_definitions.specs.Bounds.{current}
use Rattle.mm_definitions.specs.Conditions.{piece_count}
use Rattle.mm_definitions.specs.Keys.{Text, piece}
use Rattle.mm_definitions.specs.Package.{Package, open_state}
use Rattle.mm_definitions.specs.Pieces.{piece_row}
use Rattle.mm_definitions.specs.Rules.{Meets, IsNumbered}
use Rattle.mm_definitions.specs.declared.commands.Piece.{Piece}
use Rattle.mm_definitions.proofs.Parts.{some_of}
use Rattle.mm_laws.proofs.Counted.{piece_count-is}
use Rattle.mm_kit.specs.Editions.{HasPieces, numbered}
use Rattle.mm_kit.proofs.StageFacts.{numbered-more}

module _ (p : Package) (name : Text) (meets : Meets current p) (n : ℕ) (numbers : IsNumbered p.pieces name n) where
  in_range : (m : ℕ) → m + 1 ≤ n → (pos 1 ≤ℤ pos (m + 1)) × (pos (m + 1) ≤ℤ pos n)
  in_range m h = (omega (arith, ints), omega (arith, ints, h))

  -- the first pieces, as many as are asked for
  first_pieces : (m : ℕ) → m ≤ n
      → (list : List Piece) × (length list ≡ m)
      × ((i : ℕ) (q : Piece) → numbered list i ≡ Some q → get p.pieces (piece name (pos i)) ≡ Some (piece_row q))
  unfolding numbered
  first_pieces zero h = ([], refl, λ i q e. absurd (let f : ◌≡◌ {A = Option Piece} None (Some q) = e in cc))
  first_pieces (suc m) h =
      let (list, count, each) = first_pieces m (omega (arith, h)) in
      let row = some_of (get p.pieces (piece name (pos (m + 1))))
      ((numbers (pos (m + 1))).1 (in_range m (omega (arith, h)))) in
      let spelled = meets.q15.spelled (piece name (pos (m + 1))) row.0 row.1 in (
        list ++ spelled.0 ∷ [],
        omega (arith, count, length-append list (spelled.0 ∷ [])),
        λ i q e. elim (numbered-more list spelled.0 q i e) as
            (λ _. get p.pieces (piece name (pos i)) ≡ Some (piece_row q)) [
              | inl s ↦ each i q s
              | inr s ↦ ap (λ k. get p.pieces (piece name (pos k))) (s.0 ∙ ap (λ k. k + 1) count) ∙ row.1
                  ∙ ap Some spelled.1 ∙ ap (λ r. Some (piece_row r)) s.1
            ],
      )

-- an open edition has its pieces, as many as the read tells
pub open_has : (p : Package) (name : Text) (count : ℕ) → Meets current p → get p.editions name ≡ Some open_state
    → piece_count p name ≡ count
    → (list : List Piece) × HasPieces p name list × (length list ≡ count)
open_has p name count meets open_is is =
    let it = meets.q15.numbered name open_is in
    let (list, size, each) = first_pieces p name meets it.0 it.2 it.0 (omega arith) in (
      list,
      record { is_open = open_is; numbers = subst (IsNumbered p.pieces name) (sym size) it.2; each = each },
      size
          ∙ sym (piece_count-is p name it.0 it.2) ∙ is,
    )
