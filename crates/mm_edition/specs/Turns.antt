-- What becomes of one piece that is published, and of all of them.
use Rattle.std.specs.Prelude.{◌≡◌, ℕ, pos, Option, Some, None, Result, Ok, Err, IsTrue, IfOk, IfErr}
use Rattle.std.specs.FinMap.{get}
use Rattle.sqlite.specs.Held.{state}
use Rattle.sqlite.specs.State.{State, HasCleanDisk}
use Rattle.sqlite.specs.Store.{Ghosts}
use Rattle.sqlite.specs.declared.transaction.Transaction.{Transaction}
use Rattle.mm_definitions.specs.Bounds.{Profile}
use Rattle.mm_definitions.specs.Keys.{Text, piece}
use Rattle.mm_definitions.specs.Package.{Package, PieceRow, open_state}
use Rattle.mm_definitions.specs.Pieces.{piece_row, row_piece}
use Rattle.mm_definitions.specs.Rules.{Meets}
use Rattle.mm_definitions.specs.Stamp.{IsStamp}
use Rattle.mm_definitions.specs.Conditions.{least, piece_reasons}
use Rattle.mm_definitions.specs.Effects.{piece_effect}
use Rattle.mm_definitions.specs.Editions.{edition_trial}
use Rattle.mm_definitions.specs.Step.{refusal}
use Rattle.mm_definitions.specs.declared.answers.Outcome.{Outcome}
use Rattle.mm_definitions.specs.declared.commands.Command.TheVariants as commands
use Rattle.mm_layout.specs.Stamped.{step_at}
use Rattle.mm_definitions.specs.declared.answers.Fault.{Fault}
use Rattle.mm_definitions.specs.declared.commands.Piece.{Piece}
use Rattle.mm_store.specs.Stands.{Ground, StandsOn, StandsInside}
use Rattle.mm_store.specs.Shapes.{Tries}
use Rattle.mm_definitions.specs.Faults.{IsStoreFault}
use Rattle.mm_store.specs.Handed.{IsSame, Goes}
use Rattle.mm_store.specs.Statements.{CommitsNothing}
use Rattle.mm_edition.specs.declared.running.Turn.{Turn}
use Rattle.mm_edition.specs.declared.running.Turn.TheVariants.{Done, End, Refused}

-- the package after a piece, if there is one, with this text as last_change
abbrev pub piece_given : Package → Text → Option Piece → Package
piece_given p at None = p
piece_given p at (Some q) = piece_effect p q at

-- the package after the piece of a row, if there is one
abbrev pub row_given : Package → Text → Option PieceRow → Package
row_given p at None = p
row_given p at (Some r) = piece_given p at (row_piece r)

-- the package after a turn
abbrev pub after_turn : Text → ℕ → Text → Package → Turn → Package
after_turn edition number at p Done = row_given p at (get p.pieces (piece edition (pos number)))
after_turn edition number at p End = p
after_turn edition number at p (Refused why) = p

-- the piece of the number stands and nothing refuses it; or there is none; or it is refused for this
abbrev pub TellsPieceTurn : Text → ℕ → Package → Turn → Type 0
TellsPieceTurn edition number p Done =
    (q : Piece) × (get p.pieces (piece edition (pos number)) ≡ Some (piece_row q)) × (least (piece_reasons p q) ≡ None)
TellsPieceTurn edition number p End = get p.pieces (piece edition (pos number)) ≡ None
TellsPieceTurn edition number p (Refused why) =
    (q : Piece) × (get p.pieces (piece edition (pos number)) ≡ Some (piece_row q))
    × (least (piece_reasons p q) ≡ Some why)

-- ---- all pieces, and what publishing comes to. Of the transaction after a refusal, which is rolled back, nothing is
-- said.

-- what is known of a package, and what is said of an answer
abbrev pub Known : Type 1
Known = Profile → Package → Type 0

abbrev pub Said : Type 0 → Type 1
Said T = Profile → State → Ground → Package → T → Type 0

-- a package that meets the rules, at the stamp of a moment
abbrev pub IsStamped : Text → Known
IsStamped at profile p = Meets profile p × (moment : ℕ) × IsStamp moment at

-- the same where the edition is open
abbrev pub IsOpened : Text → Text → Known
IsOpened edition at profile p = Meets profile p × (get p.editions edition ≡ Some open_state) × (moment : ℕ)
    × IsStamp moment at

-- all pieces were done in turn, and the transaction stands for what they gave; or the first that is refused is told
abbrev pub TellsTrial : Text → Text → Profile → State → Ground → Package → Option (ℕ × ℕ) → Type 0
TellsTrial edition at profile new ground p None =
    (q : Package) × (edition_trial p edition at ≡ Ok q) × (q.editions ≡ p.editions) × IsTrue new.is_open
    × StandsInside profile new ground q
TellsTrial edition at profile new ground p (Some refused) = edition_trial p edition at ≡ Err refused

-- done only where it is not refused, and then the transaction stands for the package after it; or refused so
abbrev pub TellsPublish : Text → Text → Profile → State → Ground → Package → Outcome → Type 0
TellsPublish edition at profile new ground p it =
    Tries profile new ground p (refusal p (commands.Publish edition)) (step_at p (commands.Publish edition) at) (Ok it)

module _ {S : Type 0} (g : Ghosts S) (old new : Transaction S) where
  -- it does the piece of the number, and writes this text as last_change
  pub record TakesTurn (edition : Text) (number : ℕ) (at : Text) (result : Result Turn Fault) : Type 0 where
    pub goes : Goes g old new Meets (after_turn edition number at) (λ profile. TellsPieceTurn edition number) result

  -- As `Goes`, but that what is said is said of the state after the call too, which need not stand for any package.
  pub record Attempts {T : Type 0} (When : Known) (Says : Said T) (result : Result T Fault) : Type 0 where
    pub same : IsSame old new
    pub survives : CommitsNothing (state g old.conn.now) (state g new.conn.now)
    pub on : HasCleanDisk (state g new.conn.now) → (profile : Profile) (ground : Ground) (p : Package)
        → StandsInside profile (state g old.conn.now) ground p
        → When profile p → StandsOn (state g new.conn.now) ground
    pub tells : HasCleanDisk (state g new.conn.now) → (profile : Profile) (ground : Ground) (p : Package)
        → StandsInside profile (state g old.conn.now) ground p
        → When profile p → IfOk result (Says profile (state g new.conn.now) ground p)
    pub faults : IfErr result IsStoreFault

  -- it does the pieces of an open edition in turn, and writes this text as last_change
  pub record TriesPieces (edition at : Text) (result : Result (Option (ℕ × ℕ)) Fault) : Type 0 where
    pub attempt : Attempts (IsOpened edition at) (TellsTrial edition at) result

  -- it publishes the edition, and writes this text as last_change
  pub record Publishes (edition at : Text) (result : Result Outcome Fault) : Type 0 where
    pub attempt : Attempts (IsStamped at) (TellsPublish edition at) result
