-- For which number a piece is not staged, from what was looked up.
use Rattle.std.proofs.Common.{◌≡◌, ◌⊎◌, inl, inr, ℕ, ◌≤◌, ℤ, pos, ◌≤ℤ◌, ◌<ℤ◌, ◌-ℤ◌, Bool, true, false, int_le, Some}
use Rattle.std.proofs.Common.{None, refl, sym, ap, ◌∙◌, arith}
use Rattle.std.proofs.lemmas.Int.{ints}
use Rattle.std.specs.FinMap.{get, contains_key}
use Rattle.mm_definitions.specs.Bounds.{Profile, IsId, MostPieces}
use Rattle.mm_definitions.specs.Keys.{Text, piece}
use Rattle.mm_definitions.specs.Package.{Package, PieceRow, open_state}
use Rattle.mm_definitions.specs.Pieces.{piece_row}
use Rattle.mm_definitions.specs.Rules.{Meets, IsNumbered}
use Rattle.mm_definitions.specs.declared.commands.Piece.{Piece}
use Rattle.mm_staging.specs.Places.{IsPlace, IsPlaceAt, IsPlaceBehind, IsRoom, TellsBehind}
use Rattle.mm_staging.specs.declared.staging.Place.{Place}
use Rattle.mm_staging.specs.declared.staging.Place.TheVariants.{Equal, Next, Refused}
use Rattle.mm_laws.specs.NextNumber.{IsNextNumber}
use Rattle.mm_laws.proofs.PieceReasons.{stage_equal, stage_other, stage_next, stage_52, stage_54}

module _ (p : Package) (edition : Text) (number : ℤ) (q : Piece) (n : ℕ) (most : n ≤ MostPieces)
    (numbered : IsNumbered p.pieces edition n) (low : IsId number) (open_is : get p.editions edition ≡ Some open_state)
    (gone : get p.pieces (piece edition number) ≡ None) where
  stage_behind : (place : Place) → IsPlaceBehind p edition number place → IsPlace p edition number q place
  stage_behind Equal is = absurd is
  stage_behind Next is = (stage_next p edition number q n most numbered low open_is gone is.0 is.1, gone)
  stage_behind (Refused w) (inl is) = stage_54 p edition number q n most numbered low open_is gone is.1 is.2
      ∙ ap Some (sym is.0)
  stage_behind (Refused w) (inr is) = stage_52 p edition number q n most numbered low open_is gone is.1 is.2
      ∙ ap Some (sym is.0)

-- of a package that meets the rules
module _ (profile : Profile) (p : Package) (edition : Text) (number : ℤ) (q : Piece) (meets : Meets profile p)
    (low : IsId number) (open_is : get p.editions edition ≡ Some open_state) where
  pub placed : (written row : PieceRow) → written ≡ piece_row q → get p.pieces (piece edition number) ≡ Some row
      → (place : Place)
      → IsPlaceAt written row place → IsPlace p edition number q place
  placed written row is there Equal at = let it = meets.q15.numbered edition open_is in (
    stage_equal p edition number q it.0 it.1 it.2 low open_is row there (sym is ∙ at),
    there
        ∙ ap Some (sym (sym is ∙ at)),
  )
  placed written row is there Next at = absurd at
  placed written row is there (Refused w) at =
      let it = meets.q15.numbered edition open_is in stage_other p edition number q it.0 it.1 it.2 low open_is row there
      (λ e. at.1 (is ∙ e)) ∙ ap Some (sym at.0)

  pub unplaced : get p.pieces (piece edition number) ≡ None → (place : Place) → IsPlaceBehind p edition number place
      → IsPlace p edition number q place
  unplaced gone place at = let it = meets.q15.numbered edition open_is in stage_behind p edition number q it.0 it.1 it.2
      low open_is gone place at

pub place_next : (p : Package) (edition : Text) (number : ℤ) (place : Place) → IsNextNumber p edition number
    → IsRoom number place
    → IsPlaceBehind p edition number place
place_next p edition number Equal is room = absurd room
place_next p edition number Next is room = (is, room)
place_next p edition number (Refused w) is room = inl (room.0, is, room.1)

-- ---- whether a piece stands before the number

le_tells : (z : ℤ) → int_le z (pos 1) ≡ true → z ≤ℤ pos 1
le_tells z e = grind (arith, ints)

gt_tells : (z : ℤ) → int_le z (pos 1) ≡ false → pos 1 <ℤ z
gt_tells z e = grind (arith, ints)

low_or_past : (z : ℤ) → (z ≤ℤ pos 1) ⊎ (pos 1 <ℤ z)
low_or_past z = by (int_le z (pos 1)) refl
  where
    by : (b : Bool) → int_le z (pos 1) ≡ b → (z ≤ℤ pos 1) ⊎ (pos 1 <ℤ z)
    by true e = inl (le_tells z e)
    by false e = inr (gt_tells z e)

module _ (p : Package) (edition : Text) (number before : ℤ) (is : pos 1 <ℤ number → before ≡ number -ℤ pos 1)
    (found : Bool) (says : found ≡ contains_key p.pieces (piece edition before)) where
  pub found_behind : found ≡ true → TellsBehind p edition number true
  found_behind is_found = record {
    yes = λ _. elim (low_or_past number) as
        (λ _. (number ≤ℤ pos 1) ⊎ (contains_key p.pieces (piece edition (number -ℤ pos 1)) ≡ true)) [
          | inl low ↦ inl low
          | inr past ↦ inr (ap (λ z. contains_key p.pieces (piece edition z)) (sym (is past)) ∙ sym says ∙ is_found)
        ];
    no = λ is_lost. absurd (let f : true ≡ false = is_lost in cc);
  }

  pub lost_behind : found ≡ false → TellsBehind p edition number (int_le number (pos 1))
  lost_behind is_lost = record {
    yes = λ e. inl (le_tells number e);
    no = λ e. let past = gt_tells number e in (
      past,
      ap (λ z. contains_key p.pieces (piece edition z)) (sym (is past))
          ∙ sym says ∙ is_lost,
    );
  }
