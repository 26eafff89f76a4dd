-- For which number a piece is not staged, from what stands in its edition.
use Rattle.std.proofs.Common.{◌≡◌, ◌≢◌, inl, inr, ℕ, ◌+◌, ◌≤◌, ℤ, pos, ◌≤ℤ◌, ◌<ℤ◌, ◌-ℤ◌, Bool, true, false, not}
use Rattle.std.proofs.Common.{◌&&◌, ◌||◌, ◌==◌, int_lt, int_le, [], ◌∷◌, Option, Some, None, is_some, refl, sym, ap}
use Rattle.std.proofs.Common.{◌∙◌, arith}
use Rattle.std.proofs.lemmas.Int.{ints}
use Rattle.std.proofs.lemmas.Bool.Decides.{nat_tests}
use Rattle.std.specs.FinMap.{get, contains_key}
use Rattle.mm_definitions.specs.Bounds.{IsId, MostPieces}
use Rattle.mm_definitions.specs.Keys.{Text, same_text, same_number, piece}
use Rattle.mm_definitions.specs.Parts.{Stands, at_value}
use Rattle.mm_definitions.specs.Package.{Package, PieceRow, PiecesPart, open_state, published_state}
use Rattle.mm_definitions.specs.Pieces.{piece_row, same_piece}
use Rattle.mm_definitions.specs.Rules.{IsNumbered}
use Rattle.mm_definitions.specs.Conditions.{least, own_reasons, piece_count, has_equal_piece}
use Rattle.mm_definitions.specs.declared.commands.Command.TheVariants as commands
use Rattle.mm_definitions.specs.declared.commands.Piece.{Piece}
use Rattle.mm_definitions.specs.Stamp.{stamp}
use Rattle.mm_definitions.specs.Step.{refusal, done, step, unless_refused}
use Rattle.mm_definitions.proofs.Parts.{same_key, put_again}
use Rattle.mm_definitions.proofs.KeyLaws.{numbers, piece_keys}
use Rattle.mm_laws.proofs.Again.{same_row}
use Rattle.mm_laws.proofs.Published.{row_itself}
use Rattle.mm_laws.proofs.Counted.{piece_count-is}
use Rattle.mm_definitions.proofs.FirstReason.{first_of}
use Rattle.mm_laws.specs.NextNumber.{IsNextNumber}

-- ---- how numbers lie

not_past : (n : ℕ) (z : ℤ) → z ≤ℤ pos n → int_lt (pos (n + 1)) z ≡ false
not_past n z h = grind (arith, ints)

is_past : (n : ℕ) (z : ℤ) → pos (n + 1) <ℤ z → int_lt (pos (n + 1)) z ≡ true
is_past n z h = grind (arith, ints)

next_not_past : (n : ℕ) (z : ℤ) → z ≡ pos (n + 1) → int_lt (pos (n + 1)) z ≡ false
next_not_past n z h = grind (arith, ints)

is_within : (n : ℕ) (z : ℤ) → z ≤ℤ pos n → int_le z (pos n) ≡ true
is_within n z h = grind (arith, ints)

next_not_within : (n : ℕ) (z : ℤ) → z ≡ pos (n + 1) → int_le z (pos n) ≡ false
next_not_within n z h = grind (arith, ints)

pub same_as : (a b : ℤ) → a ≡ b → same_number a b ≡ true
same_as a b e = elim (same_key numbers a b) as (λ _. same_number a b ≡ true) [ inl s ↦ s.1 | inr n ↦ absurd (n.0 e) ]

other_than : (a b : ℤ) → a ≢ b → same_number a b ≡ false
other_than a b d = elim (same_key numbers a b) as (λ _. same_number a b ≡ false)
    [ inl s ↦ absurd (d s.0) | inr n ↦ n.1 ]

not_next : (n : ℕ) (z : ℤ) → z ≤ℤ pos n → z ≢ pos (n + 1)
not_next n z h e = omega (arith, ints)

full_is : (n : ℕ) → n ≡ 4096 → (n == 4096) ≡ true
full_is n e = grind (arith, nat_tests)

not_full : (n : ℕ) → n ≢ 4096 → (n == 4096) ≡ false
not_full n d = grind (arith, nat_tests)

beyond : (n : ℕ) (z : ℤ) → (z ≤ℤ pos n → ⊥) → pos n <ℤ z
beyond n z c = grind (arith, ints, c)

first_next : (n : ℕ) (z : ℤ) → z ≤ℤ pos 1 → pos n <ℤ z → z ≡ pos (n + 1)
first_next n z a b = omega (arith, ints)

behind_next : (n : ℕ) (z : ℤ) → (z -ℤ pos 1) ≤ℤ pos n → pos n <ℤ z → z ≡ pos (n + 1)
behind_next n z a b = omega (arith, ints)

room : (n : ℕ) (z : ℤ) → z ≡ pos (n + 1) → z ≤ℤ pos 4096 → n ≢ 4096
room n z e h f = omega (arith, ints)

no_room : (n : ℕ) (z : ℤ) → n ≤ 4096 → z ≡ pos (n + 1) → pos 4096 <ℤ z → n ≡ 4096
no_room n z a e h = omega (arith, ints)

one_low : (z : ℤ) → pos 1 <ℤ z → pos 1 ≤ℤ (z -ℤ pos 1)
one_low z h = omega (arith, ints)

far : (n : ℕ) (z : ℤ) → pos n <ℤ (z -ℤ pos 1) → pos (n + 1) <ℤ z
far n z a = omega (arith, ints)

-- ---- the reasons as a function of what is looked up

abbrev of_stage : ℤ → Option Text → ℕ → Bool → Option ℕ
of_stage number v count equal =
    least ((51, not (is_some v))
    ∷ (
      52,
      at_value (same_text open_state) v
          && (int_lt (pos (count + 1)) number || (int_le number (pos count) && not equal)),
    )
    ∷ (54, at_value (same_text open_state) v && same_number number (pos (count + 1)) && (count == MostPieces))
    ∷ (55, is_some v && not (at_value (same_text open_state) v)) ∷ [])

-- of an open edition
abbrev of_open : Bool → Bool → Option ℕ
of_open apart full = least ((51, false) ∷ (52, apart) ∷ (54, full) ∷ (55, false) ∷ [])

apart_52 : (full : Bool) → of_open true full ≡ Some 52
apart_52 full = first_of 52 ((54, full) ∷ (55, false) ∷ []) refl

module _ (p : Package) (edition : Text) (number : ℤ) (q : Piece) where
  abbrev why : Option ℕ
  why = least (own_reasons p (commands.Stage edition number q))

  abbrev equal : Bool
  equal = has_equal_piece p edition number q

  pub stage_51 : get p.editions edition ≡ None → why ≡ Some 51
  stage_51 is = ap (λ v. of_stage number v (piece_count p edition) equal) is

  pub stage_55 : get p.editions edition ≡ Some published_state → why ≡ Some 55
  stage_55 is = ap (λ v. of_stage number v (piece_count p edition) equal) is

  module _ (n : ℕ) (most : n ≤ MostPieces) (numbered : IsNumbered p.pieces edition n) (low : IsId number)
      (open_is : get p.editions edition ≡ Some open_state) where
    abbrev apart : Bool → Bool
    apart same = int_lt (pos (n + 1)) number || (int_le number (pos n) && not same)

    abbrev full : Bool
    full = same_number number (pos (n + 1)) && (n == MostPieces)

    why_is : (same : Bool) → equal ≡ same → why ≡ of_open (apart same) full
    why_is same e =
        ap (λ v. of_stage number v (piece_count p edition) equal) open_is
        ∙ (ap (λ c. of_stage number (Some open_state) c equal) (piece_count-is p edition n numbered)
        ∙ ap (of_stage number (Some open_state) n) e)

    -- where a piece stands at the number
    module _ (row : PieceRow) (there : get p.pieces (piece edition number) ≡ Some row) where
      within_n : number ≤ℤ pos n
      within_n = ((numbered number).0 (ap is_some there)).1

      apart_is : (same : Bool) → apart same ≡ not same
      apart_is same = ap (λ b. b || (int_le number (pos n) && not same)) (not_past n number within_n)
          ∙ ap (λ b. b && not same) (is_within n number within_n)

      full_not : full ≡ false
      full_not = ap (λ b. b && (n == MostPieces)) (other_than number (pos (n + 1)) (not_next n number within_n))

      equal_is : (b : Bool) → same_piece (piece_row q) row ≡ b → equal ≡ b
      equal_is b e = ap (at_value (same_piece (piece_row q))) there ∙ e

      pub stage_equal : piece_row q ≡ row → why ≡ None
      stage_equal e =
          why_is true (equal_is true (ap (same_piece (piece_row q)) (sym e) ∙ row_itself (piece_row q)))
          ∙ ap (λ b. of_open b full) (apart_is true) ∙ ap (of_open false) full_not

      pub stage_other : (piece_row q ≢ row) → why ≡ Some 52
      stage_other d = by (same_piece (piece_row q) row) refl
        where
          by : (b : Bool) → same_piece (piece_row q) row ≡ b → why ≡ Some 52
          by true e = absurd (d (same_row (piece_row q) row e))
          by false e = why_is false (equal_is false e) ∙ ap (λ b. of_open b full) (apart_is false) ∙ apart_52 full

    -- where none stands there
    module _ (gone : get p.pieces (piece edition number) ≡ None) where
      outside_n : pos n <ℤ number
      outside_n = beyond n number (λ h. let s : Stands p.pieces (piece edition number) =
          (numbered number).1 (low.0, h) in let f : false ≡ true = sym (ap is_some gone) ∙ s in cc)

      is_next : IsNextNumber p edition number → number ≡ pos (n + 1)
      is_next (inl first) = first_next n number first outside_n
      is_next (inr before) = behind_next n number ((numbered (number -ℤ pos 1)).0 before).1 outside_n

      beside : (e : number ≡ pos (n + 1)) → why ≡ of_open false (n == MostPieces)
      beside e =
          why_is equal refl
          ∙ (ap (λ b. of_open (b || (int_le number (pos n) && not equal)) full) (next_not_past n number e)
          ∙ (ap (λ b. of_open (b && not equal) full) (next_not_within n number e)
          ∙ ap (λ b. of_open false (b && (n == MostPieces))) (same_as number (pos (n + 1)) e)))

      -- the next number, of which there is room
      pub stage_next : IsNextNumber p edition number → number ≤ℤ pos 4096 → why ≡ None
      stage_next is room_is = let e = is_next is in beside e ∙ ap (of_open false) (not_full n (room n number e room_is))

      pub stage_54 : IsNextNumber p edition number → pos 4096 <ℤ number → why ≡ Some 54
      stage_54 is past = let e = is_next is in beside e ∙ ap (of_open false) (full_is n (no_room n number most e past))

      -- a number before it has no piece
      pub stage_52 : pos 1 <ℤ number → contains_key p.pieces (piece edition (number -ℤ pos 1)) ≡ false → why ≡ Some 52
      stage_52 past lost = why_is equal refl ∙ ap (λ b. of_open (b || (int_le number (pos n) && not equal)) full)
          (is_past n number (far n number not_before)) ∙ apart_52 full
        where
          not_before : pos n <ℤ (number -ℤ pos 1)
          not_before = beyond n (number -ℤ pos 1) (λ h.
              let s : Stands p.pieces (piece edition (number -ℤ pos 1)) = (numbered (number -ℤ pos 1)).1
              (one_low number past, h) in
              let f : false ≡ true = sym lost ∙ s in cc)

-- a piece that stands is staged again
pub again : (p : Package) (edition : Text) (number : ℤ) (q : Piece) (moment : ℕ)
    → refusal p (commands.Stage edition number q) ≡ None
    → get p.pieces (piece edition number) ≡ Some (piece_row q)
    → step p (commands.Stage edition number q) moment ≡ p
again p edition number q moment free there =
    ap (λ v. unless_refused v (done p (commands.Stage edition number q) (stamp moment)) p) free
    ∙ ap (λ (m : PiecesPart). record p { pieces = m })
    (put_again piece_keys p.pieces (piece edition number) (piece_row q) there)
