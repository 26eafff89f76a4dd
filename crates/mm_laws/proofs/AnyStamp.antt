-- Whether publishing is refused does not depend on the stamp: no reason looks at last_change.
use Rattle.std.proofs.Common.{◌≡◌, ℕ, List, [], ◌∷◌, Option, Some, None, Result, refl, sym, ap, ◌∙◌, inl, inr, is_some}
use Rattle.std.proofs.Common.{unsigned_abs}
use Rattle.std.specs.FinMap.{get, contains_key, insert}
use Rattle.mm_definitions.specs.Keys.{Text, PieceKey}
use Rattle.mm_definitions.specs.Package.{Package, Contents, ContentsPart, PieceRow}
use Rattle.mm_definitions.specs.Pieces.{row_piece}
use Rattle.mm_definitions.specs.Conditions.{least, piece_reasons, pieces_of}
use Rattle.mm_definitions.specs.Effects.{changed_at, touched_row, touch, piece_effect}
use Rattle.mm_definitions.specs.Editions.{PieceRefusal, decided, piece_trial, after_trial, trial, edition_trial}
use Rattle.mm_definitions.specs.Step.{refused_piece}
use Rattle.mm_definitions.specs.declared.commands.Piece.{Piece}
use Rattle.mm_definitions.specs.declared.commands.Piece.TheVariants as pieces
use Rattle.mm_definitions.proofs.Parts.{at_put, beside_put, same_key}
use Rattle.mm_definitions.proofs.KeyLaws.{texts}

abbrev with_contents : Package → ContentsPart → Package
with_contents p c = record p { contents = c }

abbrev SameKeys : ContentsPart → ContentsPart → Type 0
SameKeys c d = (t : Text) → contains_key c t ≡ contains_key d t

-- the first is the second but for the values of its contents
record IsAlike (p q : Package) : Type 0 where
  contents : ContentsPart
  is : p ≡ with_contents q contents
  keys : SameKeys contents q.contents

-- the contents after a touch
abbrev new_row : ContentsPart → Text → Text → Option Contents → ContentsPart
new_row c table stamp None = c
new_row c table stamp (Some row) = insert c table (changed_at stamp row)

touch_is : (p : Package) (table stamp : Text)
    → touch p table stamp ≡ with_contents p (new_row p.contents table stamp (get p.contents table))
touch_is p table stamp = by_row (get p.contents table) where
  by_row : (v : Option Contents) → touched_row p table stamp v ≡ with_contents p (new_row p.contents table stamp v)
  by_row None = refl
  by_row (Some row) = refl

same_keys : (c : ContentsPart) (table stamp : Text) → SameKeys (new_row c table stamp (get c table)) c
same_keys c table stamp t = by_row (get c table) refl where
  by_row : (v : Option Contents) → get c table ≡ v → contains_key (new_row c table stamp v) t ≡ contains_key c t
  by_row None e = refl
  by_row (Some row) e = elim (same_key texts t table) as
      (λ _. contains_key (insert c table (changed_at stamp row)) t ≡ contains_key c t) [
        | inl s ↦ ap is_some (ap (get (insert c table (changed_at stamp row))) s.0
            ∙ at_put texts c table (changed_at stamp row)) ∙ sym (ap is_some (ap (get c) s.0 ∙ e))
        | inr n ↦ ap is_some (beside_put texts c table (changed_at stamp row) t n.0)
      ]

-- touching both, each at its own time
touched_alike : (q : Package) (c : ContentsPart) (table s r : Text) → SameKeys c q.contents
    → IsAlike (touch (with_contents q c) table s) (touch q table r)
touched_alike q c table s r same = record {
  contents = new_row c table s (get c table);
  is = touch_is (with_contents q c) table s
      ∙ ap (λ x. with_contents x (new_row c table s (get c table))) (sym (touch_is q table r));
  keys = λ t. same_keys c table s t ∙ same t ∙ sym (same_keys q.contents table r t)
      ∙ ap (λ (x : Package). contains_key x.contents t) (sym (touch_is q table r));
}

effect_alike : (x : Piece) (q : Package) (c : ContentsPart) (s r : Text) → SameKeys c q.contents
    → IsAlike (piece_effect (with_contents q c) x s) (piece_effect q x r)
effect_alike (pieces.Tile table place bytes) q c s r same = touched_alike _ c table s r same
effect_alike (pieces.TileDrop table place) q c s r same = touched_alike _ c table s r same
effect_alike (pieces.Row table id title note amount) q c s r same = touched_alike _ c table s r same
effect_alike (pieces.RowDrop table id) q c s r same = touched_alike _ c table s r same
effect_alike (pieces.Media table id content_type bytes) q c s r same = touched_alike _ c table s r same
effect_alike (pieces.MediaDrop table id) q c s r same = touched_alike _ c table s r same
effect_alike (pieces.Map mapping base_id related_id) q c s r same = record { contents = c; is = refl; keys = same }
effect_alike (pieces.MapDrop mapping base_id related_id) q c s r same = record { contents = c; is = refl; keys = same }
effect_alike (pieces.Matrix table zoom m) q c s r same = touched_alike _ c table s r same

reasons_alike : (x : Piece) (q : Package) (c : ContentsPart) → SameKeys c q.contents
    → piece_reasons (with_contents q c) x ≡ piece_reasons q x
reasons_alike (pieces.Tile table place bytes) q c same = let e = same table in cc
reasons_alike (pieces.TileDrop table place) q c same = let e = same table in cc
reasons_alike (pieces.Row table id title note amount) q c same = let e = same table in cc
reasons_alike (pieces.RowDrop table id) q c same = let e = same table in cc
reasons_alike (pieces.Media table id content_type bytes) q c same = let e = same table in cc
reasons_alike (pieces.MediaDrop table id) q c same = let e = same table in cc
reasons_alike (pieces.Map mapping base_id related_id) q c same = refl
reasons_alike (pieces.MapDrop mapping base_id related_id) q c same = refl
reasons_alike (pieces.Matrix table zoom m) q c same = let e = same table in cc

by_answer : (p q : Package) (number : ℕ) (x : Piece) (s r : Text) (on to : Package → Result Package PieceRefusal)
    → refused_piece (on (piece_effect p x s)) ≡ refused_piece (to (piece_effect q x r))
    → (v : Option ℕ) → refused_piece (after_trial (decided p number x s v) on)
    ≡ refused_piece (after_trial (decided q number x r v) to)
by_answer p q number x s r on to rest None = rest
by_answer p q number x s r on to rest (Some reason) = refl

by_piece : (q : Package) (c : ContentsPart) (number : ℕ) (s r : Text) (on to : Package → Result Package PieceRefusal)
    → SameKeys c q.contents
    → ((y : Package) (d : ContentsPart) → SameKeys d y.contents → refused_piece (on (with_contents y d))
    ≡ refused_piece (to y))
    → (v : Option Piece)
    → refused_piece (after_trial (piece_trial (with_contents q c) number s v) on)
    ≡ refused_piece (after_trial (piece_trial q number r v) to)
by_piece q c number s r on to same rest None = rest q c same
by_piece q c number s r on to same rest (Some x) =
    let a = effect_alike x q c s r same in
    ap (λ v. refused_piece (after_trial (decided (with_contents q c) number x s v) on))
    (ap least (reasons_alike x q c same))
    ∙ by_answer (with_contents q c) q number x s r on to
    (ap (λ y. refused_piece (on y)) a.is ∙ rest (piece_effect q x r) a.contents a.keys) (least (piece_reasons q x))

trial_alike : (es : List (PieceKey × PieceRow)) (q : Package) (c : ContentsPart) (s r : Text) → SameKeys c q.contents
    → refused_piece (trial es (with_contents q c) s) ≡ refused_piece (trial es q r)
trial_alike [] q c s r same = refl
trial_alike (e ∷ es) q c s r same = by_piece q c (unsigned_abs e.0.number) s r (λ y. trial es y s) (λ y. trial es y r)
    same (λ y d alike. trial_alike es y d s r alike) (row_piece e.1)

-- publishing is refused at any stamp as at any other, at the same piece and for the same reason
pub any_stamp : (p : Package) (edition s r : Text)
    → refused_piece (edition_trial p edition s) ≡ refused_piece (edition_trial p edition r)
any_stamp p edition s r = trial_alike (pieces_of p edition) p p.contents s r (λ t. refl)
