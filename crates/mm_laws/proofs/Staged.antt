-- A piece that is staged keeps the rules.
use Rattle.std.proofs.Common.{◌≡◌, ◌≢◌, ℕ, ◌+◌, ◌≤◌, max, ℤ, pos, ◌≤ℤ◌, Bool, true, false, not, ◌&&◌, ◌==◌, int_lt}
use Rattle.std.proofs.Common.{int_le, unsigned_abs, Some, refl, sym, ap, subst, ◌∙◌, inl, inr, is_some, arith}
use Rattle.std.proofs.lemmas.Int.{ints}
use Rattle.std.proofs.lemmas.Bool.Decides.{nat_tests}
use Rattle.std.specs.FinMap.{get, contains_key, insert}
use Rattle.std.proofs.lemmas.Bool.{not-false}
use Rattle.mm_definitions.proofs.Integers.{above_zero}
use Rattle.mm_definitions.specs.Keys.{Text, same_text, same_number, PieceKey, piece}
use Rattle.mm_definitions.specs.Parts.{Has, Stands}
use Rattle.mm_definitions.specs.Package.{PieceRow, PiecesPart, open_state}
use Rattle.mm_definitions.specs.Bounds.{IsFrom, MostPieces}
use Rattle.mm_definitions.specs.Pieces.{piece_row}
use Rattle.mm_definitions.specs.Rules.{IsNumbered, IsSpelled, PieceWithin}
use Rattle.mm_definitions.specs.Conditions.{own_reasons, is_open, piece_count, has_equal_piece}
use Rattle.mm_definitions.specs.declared.commands.Piece.{Piece}
use Rattle.mm_definitions.specs.declared.commands.Command.TheVariants as commands
use Rattle.mm_definitions.proofs.Parts.{each_put, stands_after_put, after_put, at_put, beside_put, some_of}
use Rattle.mm_definitions.proofs.Parts.{either_false, same_key}
use Rattle.mm_definitions.proofs.KeyLaws.{piece_keys, texts, numbers}
use Rattle.mm_laws.proofs.Kept.{Keeps}
use Rattle.mm_laws.proofs.Reasons.{none_holds, and_false, stands_where}
use Rattle.mm_laws.proofs.KindFacts.{are_same, at_true}
use Rattle.mm_laws.proofs.Counted.{piece_count-is}
use Rattle.mm_laws.proofs.OnePart.{with_editions}

within_more : (n u : ℕ) (z : ℤ) → z ≤ℤ pos n → z ≤ℤ pos (max n u)
within_more n u z h = omega (arith, ints)

within_new : (n u : ℕ) (z number : ℤ) → number ≡ pos u → z ≡ number → z ≤ℤ pos (max n u)
within_new n u z number e h = omega (arith, ints)

within_old : (n u : ℕ) (z number : ℤ) → number ≡ pos u → number ≤ℤ pos (n + 1) → z ≤ℤ pos (max n u) → z ≢ number
    → z ≤ℤ pos n
within_old n u z number e h a b = omega (arith, ints)

-- the pieces are numbered still where the next is put, or one of them again
numbered_more : (pieces : PiecesPart) (edition : Text) (number : ℤ) (u n : ℕ) (row : PieceRow) → number ≡ pos u
    → pos 1 ≤ℤ number
    → number ≤ℤ pos (n + 1) → IsNumbered pieces edition n
    → IsNumbered (insert pieces (piece edition number) row) edition (max n u)
numbered_more pieces edition number u n row above_zero low high h z =
    let key = piece edition number in (
      λ s.
          let v = some_of (get (insert pieces key row) (piece edition z)) s in
          elim (after_put piece_keys pieces key row (piece edition z) v.0 v.1) as
          (λ _. IsFrom (pos 1) (pos (max n u)) z) [
            | inl x ↦ let e : z ≡ number = ap (λ (k : PieceKey). k.number) x.0 in
                (subst (λ y. pos 1 ≤ℤ y) (sym e) low, within_new n u z number above_zero e)
            | inr x ↦ let range = (h z).0 (ap is_some x.1) in (range.0, within_more n u z range.1)
          ],
      λ range. elim (same_key numbers z number) as (λ _. Stands (insert pieces key row) (piece edition z)) [
        | inl e ↦ ap is_some (ap (λ y. get (insert pieces key row) (piece edition y)) e.0
            ∙ at_put piece_keys pieces key row)
        | inr e ↦ stands_after_put piece_keys pieces key row (piece edition z)
            ((h z).1 (range.0, within_old n u z number above_zero high range.1 e.0))
      ],
    )

numbered_beside : (pieces : PiecesPart) (edition other : Text) (number : ℤ) (n : ℕ) (row : PieceRow) → other ≢ edition
    → IsNumbered pieces other n
    → IsNumbered (insert pieces (piece edition number) row) other n
numbered_beside pieces edition other number n row apart h z =
    let same = beside_put piece_keys pieces (piece edition number) row (piece other z)
    (λ e. apart (ap (λ (k : PieceKey). k.edition) e)) in
    (λ s. (h z).0 (sym (ap is_some same) ∙ s), λ range. ap is_some same ∙ (h z).1 range)

at_most_next : (count : ℕ) (number : ℤ) → int_lt (pos (count + 1)) number ≡ false → number ≤ℤ pos (count + 1)
at_most_next count number e = grind (arith, ints)

-- the next is there only where there is room for one more
still_room : (n u : ℕ) (number : ℤ) → n ≤ 4096 → number ≡ pos u → number ≤ℤ pos (n + 1)
    → (same_number number (pos (n + 1)) && (n == 4096)) ≡ false
    → max n u ≤ 4096
still_room n u number a e b none = elim (same_key numbers number (pos (n + 1))) as (λ _. max n u ≤ 4096) [
  | inl s ↦ one_more n u number a e (and_false (same_number number (pos (n + 1))) (n == 4096) none s.1) s.0
  | inr d ↦ no_more n u number a e b d.0
]
  where
    one_more : (n u : ℕ) (number : ℤ) → n ≤ 4096 → number ≡ pos u → (n == 4096) ≡ false → number ≡ pos (n + 1)
        → max n u ≤ 4096
    one_more n u number a e f s = let g : u ≡ n + 1 = omega (arith, ints) in room_left n u a g f
      where
        room_left : (n u : ℕ) → n ≤ 4096 → u ≡ n + 1 → (n == 4096) ≡ false → max n u ≤ 4096
        room_left n u a g f = grind (arith, nat_tests)

    no_more : (n u : ℕ) (number : ℤ) → n ≤ 4096 → number ≡ pos u → number ≤ℤ pos (n + 1) → number ≢ pos (n + 1)
        → max n u ≤ 4096
    no_more n u number a e b d = omega (arith, ints)

and_assoc : (a b c : Bool) → ((a && b) && c) ≡ false → a ≡ true → (b && c) ≡ false
and_assoc true b c e t = e
and_assoc false b c e t = absurd (let f : false ≡ true = t in cc)

pub stage : (edition : Text) (number : ℤ) (q : Piece) → Keeps (commands.Stage edition number q)
stage edition number q profile p moment stamp h within low is none =
    let r = none_holds (own_reasons p (commands.Stage edition number q)) none in
    let there = not-false (contains_key p.editions edition) r.0 in
    let opened : is_open p edition ≡ true = stands_where (contains_key p.editions edition) (is_open p edition) r.1.1.1.0
    there in
    let state = at_true (same_text open_state) (get p.editions edition) opened in
    let has : Has p.editions edition open_state = state.1 ∙ ap Some (sym (are_same texts open_state state.0 state.2)) in
    let n = h.q15.numbered edition has in
    let count : piece_count p edition ≡ n.0 = piece_count-is p edition n.0 n.2 in
    let next : number ≤ℤ pos (n.0 + 1) = at_most_next n.0 number (ap (λ c. int_lt (pos (c + 1)) number) (sym count)
    ∙ (either_false (int_lt (pos (piece_count p edition + 1)) number)
    (int_le number (pos (piece_count p edition)) && not (has_equal_piece p edition number q))
    (and_false (is_open p edition) _ r.1.0 opened)).0) in
    let u = unsigned_abs number in
    let is_whole : number ≡ pos u = above_zero number within.1.0 in
    let room : max n.0 u ≤ MostPieces = still_room n.0 u number n.1 is_whole next
    (ap (λ c. same_number number (pos (c + 1)) && (c == MostPieces)) (sym count)
    ∙ and_assoc (is_open p edition) (same_number number (pos (piece_count p edition + 1)))
    (piece_count p edition == MostPieces) r.1.1.0 opened) in
    let key = piece edition number in
    let row = piece_row q in
    with_editions profile p h _ _
    h.q4.of_editions
    (record {
      states = h.q15.states;
      numbered = λ e f. elim (same_key texts e edition) as
          (λ _. (m : ℕ) × (m ≤ MostPieces) × IsNumbered (insert p.pieces key row) e m) [
            | inl s ↦ (
              max n.0 u,
              room,
              subst (λ t. IsNumbered (insert p.pieces key row) t (max n.0 u)) (sym s.0)
                  (numbered_more p.pieces edition number u n.0 row is_whole within.1.0 next n.2),
            )
            | inr s ↦ let m = h.q15.numbered e f in
                (m.0, m.1, numbered_beside p.pieces edition e number m.0 row s.0 m.2)
          ];
      of_open = each_put piece_keys p.pieces key row (λ k _. Has p.editions k.edition open_state) h.q15.of_open has;
      spelled = each_put piece_keys p.pieces key row (λ _ s. IsSpelled profile s) h.q15.spelled
          (q, refl, within.2, within.3);
    })
    h.q16.editions
    (each_put piece_keys p.pieces key row PieceWithin h.q16.pieces (within.0, within.1))
