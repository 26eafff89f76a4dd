-- How the look for a piece and the call that it is taken as make one turn of publishing.
use Rattle.std.proofs.Common.{◌≡◌, ℕ, pos, Option, Some, None, Result, Ok, Err, refl, sym, ap, subst}
use Rattle.std.proofs.Common.{◌∙◌}
use Rattle.std.specs.Prelude.{IsErrAnd}
use Rattle.std.specs.FinMap.{get}
use Rattle.sqlite.specs.Store.{Ghosts}
use Rattle.sqlite.specs.declared.transaction.Transaction.{Transaction}
use Rattle.mm_definitions.specs.Bounds.{Profile}
use Rattle.mm_definitions.specs.Keys.{Text, piece}
use Rattle.mm_definitions.specs.Package.{Package}
use Rattle.mm_definitions.specs.Pieces.{piece_row}
use Rattle.mm_definitions.specs.Rules.{Meets}
use Rattle.mm_definitions.specs.Conditions.{least, piece_reasons}
use Rattle.mm_definitions.specs.Step.{refusal, refusal_of, done, unless_refused}
use Rattle.mm_definitions.specs.declared.answers.Fault.{Fault}
use Rattle.mm_definitions.specs.declared.answers.Outcome.{Outcome}
use Rattle.mm_definitions.specs.declared.answers.Outcome.TheVariants as outcome
use Rattle.mm_definitions.specs.Refusals.{Refusal, reason_of}
use Rattle.mm_definitions.proofs.RefusalFacts.{its_reason}
use Rattle.mm_definitions.specs.declared.commands.Command.TheVariants as commands
use Rattle.mm_definitions.specs.declared.commands.Piece.{Piece}
use Rattle.mm_definitions.specs.declared.commands.Piece.TheVariants as pieces
use Rattle.mm_laws.proofs.Published.{read_back}
use Rattle.mm_store.specs.Shapes.{refused_as}
use Rattle.mm_store.specs.Handed.{Goes, Looks}
use Rattle.mm_store.proofs.Going.{goes_as, goes_given, failed_where}
use Rattle.mm_blobs.proofs.Viewing.{looks_of, finds_as, finds_failed}
use Rattle.mm_layout.specs.Stamped.{step_at}
use Rattle.mm_layout.specs.Handed.{FindsByRules, LendsBytes}
use Rattle.mm_staging.specs.Outlines.{with_bytes, HoldsBytes, IsOutlined}
use Rattle.mm_staging.specs.declared.outlines.Outline.{Outline}
use Rattle.mm_edition.specs.Turns.{piece_given, row_given, after_turn, TellsPieceTurn, TakesTurn}
use Rattle.mm_edition.specs.declared.running.Turn.{Turn}
use Rattle.mm_edition.specs.declared.running.Turn.TheVariants.{Done, End, Refused}
use Rattle.mm_edition.proofs.Lending.{finds_then_lends}

-- ---- a piece as its command

-- a piece is refused for the least of its reasons
piece_refusal : (p : Package) (q : Piece) → refusal p (commands.Edit q) ≡ refusal_of (least (piece_reasons p q)) None
piece_refusal p (pieces.Tile table place bytes) = refl
piece_refusal p (pieces.TileDrop table place) = refl
piece_refusal p (pieces.Row table id title note amount) = refl
piece_refusal p (pieces.RowDrop table id) = refl
piece_refusal p (pieces.Media table id content_type bytes) = refl
piece_refusal p (pieces.MediaDrop table id) = refl
piece_refusal p (pieces.Map mapping base_id related_id) = refl
piece_refusal p (pieces.MapDrop mapping base_id related_id) = refl
piece_refusal p (pieces.Matrix table zoom m) = refl

no_reason : (v : Option ℕ) → refusal_of v None ≡ None → v ≡ None
no_reason None e = refl
no_reason (Some n) e = absurd (let f : ◌≡◌ {A = Option Refusal} (Some _) None = e in cc)

-- ---- a turn

-- the turn that the command of the piece comes to
abbrev pub as_turn : Outcome → Turn
as_turn outcome.Done = Done
as_turn (outcome.Refused why) = Refused (reason_of why)

module _ (edition : Text) (number : ℕ) (at : Text) where
  -- the command of the piece that stands gives what its turn gives
  command_turn : (p : Package) (q : Piece) (it : Outcome)
      → get p.pieces (piece edition (pos number)) ≡ Some (piece_row q)
      → refusal p (commands.Edit q) ≡ refused_as it
      → (after_turn edition number at p (as_turn it) ≡ step_at p (commands.Edit q) at)
      × TellsPieceTurn edition number p (as_turn it)
  command_turn p q outcome.Done there accepted = (
    ap (row_given p at) there ∙ ap (piece_given p at) (read_back q)
        ∙ sym (ap (λ r. unless_refused r (done p (commands.Edit q) at) p) accepted),
    (q, there, no_reason (least (piece_reasons p q)) (sym (piece_refusal p q) ∙ accepted)),
  )
  command_turn p q (outcome.Refused why) there refused = (
    sym (ap (λ r. unless_refused r (done p (commands.Edit q) at) p) refused),
    (q, there, its_reason (least (piece_reasons p q)) why (sym (piece_refusal p q) ∙ refused)),
  )

module _ {S : Type 0} (g : Ghosts S) (old new : Transaction S) (edition : Text) (number : ℕ) where
  -- the look for the piece
  abbrev Found : Result (Option Outline) Fault → Type 0
  Found = FindsByRules g old new (λ v found. IsOutlined v.kept.shelf (get v.content.pieces (piece edition (pos number)))
      found)

  -- the command that it is taken as
  abbrev Taken : Outline → Text → Result Outcome Fault → Type 0
  Taken outline at = LendsBytes g old new (HoldsBytes outline) (λ bytes. commands.Edit (with_bytes bytes outline)) at

module _ {S : Type 0} {g : Ghosts S} {a b : Transaction S} {edition : Text} {number : ℕ} {at : Text} where
  pub turn_ends : {found : Option Outline} → Found g a b edition number (Ok found) → found ≡ None
      → TakesTurn g a b edition number at (Ok End)
  turn_ends {found = found} look none =
      let key = piece edition (pos number) in
      let read : Looks g a b (λ p it. (profile : Profile) → Meets profile p → get p.pieces key ≡ None) (Ok found) =
      looks_of (finds_as look (λ v says profile meets. subst (IsOutlined v.kept.shelf (get v.content.pieces key)) none
      (says profile meets))) in
      record {
        goes = goes_as (goes_given read (λ profile p meets. tt))
            (λ profile p meets says. (refl, says profile meets));
      }

  pub turn_looked_in_vain : {e : Fault} {r : Result Turn Fault} → Found g a b edition number (Err e)
      → IsErrAnd r (λ f. f ≡ e)
      → TakesTurn g a b edition number at r
  turn_looked_in_vain look is = record { goes = finds_failed look is }

-- ---- the piece is taken as its command

module _ {S : Type 0} {g : Ghosts S} {a b c : Transaction S} {found : Option Outline} {outline : Outline} where
  took : (edition : Text) (number : ℕ) (at : Text) {r : Result Outcome Fault} → Found g a b edition number (Ok found)
      → found ≡ Some outline
      → Taken g b c edition number outline at r
      → Goes g a c Meets (λ p it. after_turn edition number at p (as_turn it))
      (λ profile p it. TellsPieceTurn edition number p (as_turn it)) r
  took edition number at look is taken = finds_then_lends look taken (λ profile v meets says.
      let told = subst (IsOutlined v.kept.shelf (get v.content.pieces (piece edition (pos number)))) is
      (says profile meets) in
      (told.0, told.1, λ it more. command_turn edition number at v.content (with_bytes told.0 outline) it told.2 more))

  module _ {edition : Text} {number : ℕ} {at : Text} where
    pub turn_taken : {it : Outcome} {turn : Turn} → Found g a b edition number (Ok found) → found ≡ Some outline
        → Taken g b c edition number outline at (Ok it)
        → turn ≡ as_turn it → TakesTurn g a c edition number at (Ok turn)
    turn_taken look is taken same = record {
      goes = goes_as (took edition number at look is taken)
          (λ profile p meets says. (
            ap (after_turn edition number at p) same,
            subst (TellsPieceTurn edition number p)
                (sym same) says,
          ));
    }

    pub turn_gave_up : {e : Fault} {r : Result Turn Fault} → Found g a b edition number (Ok found)
        → found ≡ Some outline
        → Taken g b c edition number outline at (Err e) → IsErrAnd r (λ f. f ≡ e) → TakesTurn g a c edition number at r
    turn_gave_up look is taken gave_up =
        record { goes = failed_where (took edition number at look is taken) gave_up (λ profile p meets. meets) }
