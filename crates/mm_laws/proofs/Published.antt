-- Publishing keeps the rules.
use Rattle.std.proofs.Common.{◌≡◌, ℕ, ℤ, Bool, true, if◌then◌else◌, List, [], ◌∷◌, Option, Some, None}
use Rattle.std.proofs.Common.{Result, Ok, Err, refl, sym, ap, subst, ◌∙◌, ◌⊎◌, inl, inr, ◌≤◌, unsigned_abs}
use Rattle.std.proofs.lemmas.Bool.{and_from}
use Rattle.std.specs.List.{AllByRecursion}
use Rattle.std.specs.FinMap.{retain_keys}
use Rattle.mm_definitions.specs.Keys.{Text, same_text, same_number, PieceKey}
use Rattle.mm_definitions.specs.Package.{Package, PieceRow, open_state, published_state}
use Rattle.mm_definitions.specs.Bounds.{Profile, IsMoment, IsName, MostPieces}
use Rattle.mm_definitions.specs.Pieces.{piece_row, same_piece, piece_by_kind, if_spelled, row_piece}
use Rattle.mm_definitions.specs.Within.{IsPieceWithin}
use Rattle.mm_definitions.specs.Stamp.{IsStamp}
use Rattle.mm_definitions.specs.Rules.{Meets, IsNumbered, IsSpelled, EditionWithin, PieceWithin}
use Rattle.mm_definitions.specs.Conditions.{least, piece_reasons, pieces_of}
use Rattle.mm_definitions.specs.Effects.{is_other, piece_effect}
use Rattle.mm_definitions.specs.Editions.{PieceRefusal, decided, piece_trial, after_trial, trial, edition_trial, closed}
use Rattle.mm_definitions.specs.Step.{closed_by}
use Rattle.mm_definitions.specs.declared.commands.Piece.{Piece}
use Rattle.mm_definitions.specs.declared.commands.Piece.TheVariants as pieces
use Rattle.mm_definitions.proofs.Parts.{same_some, same_itself, each_put, each_retain, after_put, after_retain}
use Rattle.mm_definitions.proofs.Parts.{beside_put}
use Rattle.mm_definitions.proofs.CleanTexts.{ascii_is_clean}
use Rattle.mm_definitions.proofs.KeyLaws.{texts, numbers, piece_keys}
use Rattle.mm_definitions.proofs.Listed.{along_entries}
use Rattle.mm_laws.proofs.Kept.{PieceKeeps}
use Rattle.mm_laws.proofs.KindFacts.{differ}
use Rattle.mm_laws.proofs.Matrices.{matrix}
use Rattle.mm_laws.proofs.Contents as contents
use Rattle.mm_laws.proofs.Dropped.{other_tells}
use Rattle.mm_laws.proofs.Relations.{numbered_still}
use Rattle.mm_laws.proofs.OnePart.{with_editions}

pub piece_keeps : (q : Piece) → PieceKeeps q
piece_keeps (pieces.Tile table place bytes) = contents.tile_put table place bytes
piece_keeps (pieces.TileDrop table place) = contents.tile_drop table place
piece_keeps (pieces.Row table id title note amount) = contents.row_put table id title note amount
piece_keeps (pieces.RowDrop table id) = contents.row_drop table id
piece_keeps (pieces.Media table id content_type bytes) = contents.media_put table id content_type bytes
piece_keeps (pieces.MediaDrop table id) = contents.media_drop table id
piece_keeps (pieces.Map mapping base_id related_id) = contents.map_put mapping base_id related_id
piece_keeps (pieces.MapDrop mapping base_id related_id) = contents.map_drop mapping base_id related_id
piece_keeps (pieces.Matrix table zoom m) = matrix table zoom m

-- the row of a piece is read as that piece
pub row_itself : (r : PieceRow) → same_piece r r ≡ true
row_itself r =
    let text : (t : Text) → same_text t t ≡ true = λ t. same_itself texts t in
    let number : (z : ℤ) → same_number z z ≡ true = λ z. same_itself numbers z in
    and_from _ _ (and_from _ _ (and_from _ _ (and_from _ _ (and_from _ _
    (and_from _ _ (and_from _ _ (and_from _ _
    (and_from _ _ (and_from _ _ (and_from _ _ (text r.kind) (text r.name)) (number r.k1)) (number r.k2)) (number r.k3))
    (number r.k4)) (number r.k5)) (number r.k6)) (number r.k7)) (text r.t1)) (text r.t2)) (text r.bytes)

pub by_kind : (q : Piece) → piece_by_kind (piece_row q) ≡ Some q
by_kind (pieces.Tile table place bytes) = refl
by_kind (pieces.TileDrop table place) = refl
by_kind (pieces.Row table id title note amount) = refl
by_kind (pieces.RowDrop table id) = refl
by_kind (pieces.Media table id content_type bytes) = refl
by_kind (pieces.MediaDrop table id) = refl
by_kind (pieces.Map mapping base_id related_id) = refl
by_kind (pieces.MapDrop mapping base_id related_id) = refl
by_kind (pieces.Matrix table zoom m) = refl

pub read_back : (q : Piece) → row_piece (piece_row q) ≡ Some q
read_back q = ap (if_spelled (piece_row q)) (by_kind q)
    ∙ ap (λ b. if b then Some q else None) (row_itself (piece_row q))

row_within : (profile : Profile) (r : PieceRow) → IsSpelled profile r → (q : Piece) → row_piece r ≡ Some q
    → IsPieceWithin profile q
row_within profile r s q e = subst (IsPieceWithin profile) (same_some (sym (ap row_piece s.1 ∙ read_back s.0) ∙ e)) s.2

pub same_ok : {a b : Package} → ◌≡◌ {A = Result Package PieceRefusal} (Ok a) (Ok b) → a ≡ b
same_ok e = cc

module _ (profile : Profile) (moment : ℕ) (stamp : Text) (low : IsMoment moment) (is : IsStamp moment stamp) where
  by_reason : (p next : Package) (number : ℕ) (q : Piece) (rest : Package → Result Package PieceRefusal)
      → Meets profile p → IsPieceWithin profile q
      → ((p : Package) → Meets profile p → rest p ≡ Ok next → Meets profile next)
      → (v : Option ℕ) → least (piece_reasons p q) ≡ v → after_trial (decided p number q stamp v) rest ≡ Ok next
      → Meets profile next
  by_reason p next number q rest h within on None none f = on (piece_effect p q stamp)
      (piece_keeps q profile p moment stamp h within low is none) f
  by_reason p next number q rest h within on (Some n) none f =
      absurd (let g : ◌≡◌ {A = Result Package PieceRefusal} (Err (number, n)) (Ok next) = f in cc)

  by_piece : (p next : Package) (number : ℕ) (rest : Package → Result Package PieceRefusal) → Meets profile p
      → ((p : Package) → Meets profile p → rest p ≡ Ok next → Meets profile next)
      → (v : Option Piece) → ((q : Piece) → v ≡ Some q → IsPieceWithin profile q)
      → after_trial (piece_trial p number stamp v) rest ≡ Ok next
      → Meets profile next
  by_piece p next number rest h on None within f = on p h f
  by_piece p next number rest h on (Some q) within f = by_reason p next number q rest h (within q refl) on
      (least (piece_reasons p q)) refl f

  trial_keeps : (es : List (PieceKey × PieceRow)) → AllByRecursion (λ e. IsSpelled profile e.1) es → (next p : Package)
      → Meets profile p
      → trial es p stamp ≡ Ok next → Meets profile next
  trial_keeps [] spelled next p h e = subst (Meets profile) (same_ok e) h
  trial_keeps (e ∷ es) spelled next p h f =
      by_piece p next (unsigned_abs e.0.number) (λ q. trial es q stamp) h (λ q. trial_keeps es spelled.1 next q)
      (row_piece e.1) (row_within profile e.1 spelled.0) f

  -- the edition is published, and its pieces go
  closed_keeps : (edition : Text) → IsName edition → (p : Package) → Meets profile p → Meets profile (closed edition p)
  closed_keeps edition named p h =
      let test : PieceKey → Bool = λ k. is_other edition k.edition in
      with_editions profile p h _ _
      (each_put texts p.editions edition published_state (λ e _. IsName e) h.q4.of_editions named)
      (record {
        states = each_put texts p.editions edition published_state (λ _ s. (s ≡ open_state) ⊎ (s ≡ published_state))
            h.q15.states (inr refl);
        numbered = λ e f. elim (after_put texts p.editions edition published_state e open_state f) as
            (λ _. (n : ℕ) × (n ≤ MostPieces) × IsNumbered (retain_keys p.pieces test) e n) [
              | inl s ↦ absurd (differ published_state open_state refl s.1)
              | inr n ↦ let was = h.q15.numbered e n.1 in (was.0, was.1, numbered_still p edition e was.0 n.0 was.2)
            ];
        of_open = λ k r e. let was = after_retain piece_keys p.pieces test k r e in
            beside_put texts p.editions edition published_state k.edition (other_tells edition k.edition was.0)
            ∙ h.q15.of_open k r was.1;
        spelled = each_retain piece_keys p.pieces test (λ _ r. IsSpelled profile r) h.q15.spelled;
      })
      (each_put texts p.editions edition published_state EditionWithin h.q16.editions
      (named, ascii_is_clean published_state refl refl))
      (each_retain piece_keys p.pieces test PieceWithin h.q16.pieces)

  closed_by_keeps : (edition : Text) → IsName edition → (p : Package) → Meets profile p
      → (v : Result Package PieceRefusal)
      → edition_trial p edition stamp ≡ v → Meets profile (closed_by edition v p)
  closed_by_keeps edition named p h (Ok next) e =
      closed_keeps edition named next (trial_keeps (pieces_of p edition)
      (along_entries piece_keys (λ _ r. IsSpelled profile r)
      (retain_keys p.pieces (λ k. same_text k.edition edition))
      (each_retain piece_keys p.pieces (λ k. same_text k.edition edition) (λ _ r. IsSpelled profile r) h.q15.spelled))
      next p h e)
  closed_by_keeps edition named p h (Err r) e = h

  pub publish : (edition : Text) → IsName edition → (p : Package) → Meets profile p
      → Meets profile (closed_by edition (edition_trial p edition stamp) p)
  publish edition named p h = closed_by_keeps edition named p h (edition_trial p edition stamp) refl
