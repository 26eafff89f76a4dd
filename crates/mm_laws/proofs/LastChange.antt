-- Which commands set last_change, and of which table.
use Rattle.std.proofs.Common.{◌≡◌, ℕ, ℤ, unsigned_abs, Bool, true, false, ◌||◌, List, [], ◌∷◌, Option, Some, None}
use Rattle.std.proofs.Common.{Result, Ok, Err, refl, sym, ap, subst, ◌∙◌, inl, inr}
use Rattle.std.specs.FinMap.{get, insert}
use Rattle.mm_definitions.specs.Keys.{Text, same_text, PieceKey}
use Rattle.mm_definitions.specs.Parts.{Has, at_value}
use Rattle.mm_definitions.specs.Package.{Package, Box, Contents, ContentsPart, PieceRow}
use Rattle.mm_definitions.specs.Pieces.{row_piece}
use Rattle.mm_definitions.specs.Stamp.{stamp}
use Rattle.mm_definitions.specs.Conditions.{least, piece_reasons, pieces_of}
use Rattle.mm_definitions.specs.Effects.{changed_at, touched_row, touch, piece_effect, with_pyramid, with_zoom_row}
use Rattle.mm_definitions.specs.Editions.{PieceRefusal, decided, piece_trial, after_trial, trial, edition_trial}
use Rattle.mm_definitions.specs.Step.{refusal, closed_by, done, unless_refused, step}
use Rattle.mm_definitions.specs.declared.commands.Piece.{Piece}
use Rattle.mm_definitions.specs.declared.commands.Piece.TheVariants as pieces
use Rattle.mm_definitions.specs.declared.commands.Step.{Step}
use Rattle.mm_definitions.specs.declared.commands.Step.TheVariants as steps
use Rattle.mm_definitions.specs.declared.commands.Command.{Command}
use Rattle.mm_definitions.specs.declared.commands.Command.TheVariants as commands
use Rattle.mm_definitions.proofs.Parts.{at_put, beside_put, after_remove, same_key, same_some, not_none}
use Rattle.mm_definitions.proofs.KeyLaws.{texts}
use Rattle.mm_laws.specs.Laws.{piece_changes, some_piece_changes, sets_last_change, IsSetOrKept}
use Rattle.mm_laws.proofs.Published.{same_ok}
use Rattle.mm_laws.proofs.Closed.{publish_went}

-- a row that is put
put_sets : (contents : ContentsPart) (table : Text) (new : Contents) (stamp t : Text) (row : Contents)
    → new.last_change ≡ stamp
    → Has (insert contents table new) t row → IsSetOrKept (same_text t table) stamp contents t row
put_sets contents table new stamp t row is e = elim (same_key texts t table) as
    (λ _. IsSetOrKept (same_text t table) stamp contents t row) [
      | inl s ↦ let same : new ≡ row = same_some (sym (at_put texts contents table new)
          ∙ ap (get (insert contents table new)) (sym s.0) ∙ e) in inl (
            s.1,
            ap (λ (c : Contents). c.last_change) (sym same)
                ∙ is,
          )
      | inr n ↦ inr (n.1, sym (beside_put texts contents table new t n.0) ∙ e)
    ]

touch_sets : (p : Package) (table stamp t : Text) (row : Contents) → Has (touch p table stamp).contents t row
    → IsSetOrKept (same_text t table) stamp p.contents t row
touch_sets p table stamp t row e = by_row (get p.contents table) refl e where
  by_row : (v : Option Contents) → get p.contents table ≡ v → Has (touched_row p table stamp v).contents t row
      → IsSetOrKept (same_text t table) stamp p.contents t row
  by_row None was f = elim (same_key texts t table) as (λ _. IsSetOrKept (same_text t table) stamp p.contents t row) [
    | inl s ↦ absurd (not_none f (ap (get p.contents) s.0 ∙ was))
    | inr n ↦ inr (n.1, f)
  ]
  by_row (Some c) was f = put_sets p.contents table (changed_at stamp c) stamp t row refl f

piece_sets : (q : Piece) (p : Package) (stamp t : Text) (row : Contents) → Has (piece_effect p q stamp).contents t row
    → IsSetOrKept (piece_changes q t) stamp p.contents t row
piece_sets (pieces.Tile table place bytes) p stamp t r e = touch_sets _ table stamp t r e
piece_sets (pieces.TileDrop table place) p stamp t r e = touch_sets _ table stamp t r e
piece_sets (pieces.Row table id title note amount) p stamp t r e = touch_sets _ table stamp t r e
piece_sets (pieces.RowDrop table id) p stamp t r e = touch_sets _ table stamp t r e
piece_sets (pieces.Media table id content_type bytes) p stamp t r e = touch_sets _ table stamp t r e
piece_sets (pieces.MediaDrop table id) p stamp t r e = touch_sets _ table stamp t r e
piece_sets (pieces.Map mapping base_id related_id) p stamp t r e = inr (refl, e)
piece_sets (pieces.MapDrop mapping base_id related_id) p stamp t r e = inr (refl, e)
piece_sets (pieces.Matrix table zoom m) p stamp t r e = touch_sets _ table stamp t r e

-- set by the first or by what follows, or by neither
either_sets : (a b : Bool) (stamp t : Text) (first middle : ContentsPart) (row : Contents)
    → ((x : Contents) → Has middle t x → IsSetOrKept a stamp first t x) → IsSetOrKept b stamp middle t row
    → IsSetOrKept (a || b) stamp first t row
either_sets a b stamp t first middle row here (inl s) = inl (or_true a b s.0, s.1) where
  or_true : (a b : Bool) → b ≡ true → (a || b) ≡ true
  or_true true b e = refl
  or_true false b e = e
either_sets a b stamp t first middle row here (inr k) = by_first (here row k.1) where
  by_first : IsSetOrKept a stamp first t row → IsSetOrKept (a || b) stamp first t row
  by_first (inl s) = inl (ap (λ x. x || b) s.0, s.1)
  by_first (inr n) = inr (ap (λ x. x || b) n.0 ∙ k.0, n.1)

module _ (stamp t : Text) (row : Contents) where
  by_reason : (p next : Package) (number : ℕ) (q : Piece) (later : Bool) (rest : Package → Result Package PieceRefusal)
      → ((middle : Package) → rest middle ≡ Ok next → IsSetOrKept later stamp middle.contents t row)
      → (v : Option ℕ) → after_trial (decided p number q stamp v) rest ≡ Ok next
      → IsSetOrKept (piece_changes q t || later) stamp p.contents t row
  by_reason p next number q later rest on None e =
      either_sets (piece_changes q t) later stamp t p.contents (piece_effect p q stamp).contents row
      (λ x. piece_sets q p stamp t x) (on (piece_effect p q stamp) e)
  by_reason p next number q later rest on (Some n) e =
      absurd (let f : ◌≡◌ {A = Result Package PieceRefusal} (Err (number, n)) (Ok next) = e in cc)

  by_piece : (p next : Package) (number : ℕ) (later : Bool) (rest : Package → Result Package PieceRefusal)
      → ((middle : Package) → rest middle ≡ Ok next → IsSetOrKept later stamp middle.contents t row)
      → (v : Option Piece) → after_trial (piece_trial p number stamp v) rest ≡ Ok next
      → IsSetOrKept (at_value (λ q. piece_changes q t) v || later) stamp p.contents t row
  by_piece p next number later rest on None e = on p e
  by_piece p next number later rest on (Some q) e = by_reason p next number q later rest on (least (piece_reasons p q))
      e

  trial_sets : (es : List (PieceKey × PieceRow)) (p next : Package) → trial es p stamp ≡ Ok next
      → Has next.contents t row
      → IsSetOrKept (some_piece_changes es t) stamp p.contents t row
  trial_sets [] p next e has = inr (refl, subst (λ (q : Package). Has q.contents t row) (sym (same_ok e)) has)
  trial_sets (x ∷ xs) p next e has =
      by_piece p next (unsigned_abs x.0.number) (some_piece_changes xs t) (λ q. trial xs q stamp)
      (λ middle f. trial_sets xs middle next f has) (row_piece x.1) e

closed_sets : (p : Package) (edition stamp t : Text) (row : Contents) (v : Result Package PieceRefusal)
    → edition_trial p edition stamp ≡ v
    → Has (closed_by edition v p).contents t row
    → (next : Package) → v ≡ Ok next → IsSetOrKept (some_piece_changes (pieces_of p edition) t) stamp p.contents t row
closed_sets p edition stamp t row (Ok q) e has next f = trial_sets stamp t row (pieces_of p edition) p q e has
closed_sets p edition stamp t row (Err r) e has next f =
    absurd (let g : ◌≡◌ {A = Result Package PieceRefusal} (Err r) (Ok next) = f in cc)

pyramid_sets : (step : Step) (p : Package) (table identifier : Text) (srs : ℤ) (box : Box) (stamp t : Text)
    (row : Contents)
    → Has (with_zoom_row (with_pyramid p table identifier srs box step stamp) table step).contents t row
    → IsSetOrKept (same_text t table) stamp p.contents t row
pyramid_sets steps.Two p table identifier srs box stamp t row e = put_sets p.contents table _ stamp t row refl e
pyramid_sets steps.Other p table identifier srs box stamp t row e = put_sets p.contents table _ stamp t row refl e

done_sets : (c : Command) (p : Package) (moment : ℕ) (t : Text) (row : Contents) → refusal p c ≡ None
    → Has (done p c (stamp moment)).contents t row
    → IsSetOrKept (sets_last_change p c t) (stamp moment) p.contents t row
done_sets (commands.Srs id name organization organization_id definition description) p moment t row none e = inr
    (refl, e)
done_sets (commands.Pyramid table identifier srs min_x min_y max_x max_y step) p moment t row none e =
    pyramid_sets step p table identifier srs _ (stamp moment) t row e
done_sets (commands.Table table kind identifier) p moment t row none e = put_sets p.contents table _ (stamp moment) t
    row refl e
done_sets (commands.Drop table) p moment t row none e = inr (refl, (after_remove texts p.contents table t row e).1)
done_sets (commands.Relation mapping base related name) p moment t row none e = inr (refl, e)
done_sets (commands.RelationDrop mapping) p moment t row none e = inr (refl, e)
done_sets (commands.Edition name) p moment t row none e = inr (refl, e)
done_sets (commands.Discard name) p moment t row none e = inr (refl, e)
done_sets (commands.Stage edition number q) p moment t row none e = inr (refl, e)
done_sets (commands.Publish edition) p moment t row none e = let went = publish_went p edition moment none in
    closed_sets p edition (stamp moment) t row (edition_trial p edition (stamp moment)) refl e went.0 went.1
done_sets (commands.Rehearse edition) p moment t row none e = inr (refl, e)
done_sets (commands.Edit q) p moment t row none e = piece_sets q p (stamp moment) t row e

pub last_change : (p : Package) (c : Command) (moment : ℕ) (t : Text) (row : Contents) → refusal p c ≡ None
    → Has (step p c moment).contents t row
    → IsSetOrKept (sets_last_change p c t) (stamp moment) p.contents t row
last_change p c moment t row none e = done_sets c p moment t row none
    (subst (λ (q : Package). Has q.contents t row) (ap (λ v. unless_refused v (done p c (stamp moment)) p) none) e)
