-- What a call does with the transaction that it is handed, where it writes a last_change, or leaves all as it is. Each
-- leaves it the transaction on the same connection (`same`).
use Rattle.std.specs.Prelude.{◌≡◌, ⊤, ℕ, List, Result}
use Rattle.sqlite.specs.Held.{state}
use Rattle.sqlite.specs.Store.{Ghosts}
use Rattle.sqlite.specs.declared.transaction.Transaction.{Transaction}
use Rattle.mm_definitions.specs.Bounds.{Profile}
use Rattle.mm_definitions.specs.Keys.{Text}
use Rattle.mm_definitions.specs.Package.{Package}
use Rattle.mm_definitions.specs.declared.answers.Fault.{Fault}
use Rattle.mm_definitions.specs.declared.answers.Outcome.{Outcome}
use Rattle.mm_definitions.specs.declared.commands.Command.{Command}
use Rattle.mm_definitions.specs.Rules.{Meets}
use Rattle.mm_definitions.specs.Step.{refusal}
use Rattle.mm_store.specs.Shapes.{refused_as}
use Rattle.mm_store.specs.Blobs.{Shelf}
use Rattle.mm_store.specs.Handed.{IsSame, Goes}
use Rattle.mm_store.specs.Kept.{no_spare}
use Rattle.mm_blobs.specs.Handed.{Finds}
use Rattle.mm_blobs.specs.Moves.{IsMove}
use Rattle.mm_blobs.specs.Views.{View, IsSeen}
use Rattle.mm_layout.specs.Stamped.{step_at}
use Rattle.mm_layout.specs.Touched.{touched, IsTouched}

module _ {S : Type 0} (g : Ghosts S) (old new : Transaction S) where
  -- it does the command, and writes this text as last_change
  pub record Lends (command : Command) (last_change : Text) (result : Result Outcome Fault) : Type 0 where
    pub goes : Goes g old new Meets (λ p it. step_at p command last_change)
        (λ profile p it. refusal p command ≡ refused_as it) result

  -- it does the command where this holds of the package, and writes this text as last_change
  pub record LendsWhere (When : Package → Type 0) (command : Command) (last_change : Text)
      (result : Result Outcome Fault) : Type 0 where
    pub goes : Goes g old new (λ profile p. Meets profile p × When p) (λ p it. step_at p command last_change)
        (λ profile p it. refusal p command ≡ refused_as it) result

  -- it does the command, which writes no last_change
  pub record LendsUnstamped (command : Command) (result : Result Outcome Fault) : Type 0 where
    pub goes : (text : Text) → Goes g old new Meets (λ p it. step_at p command text)
        (λ profile p it. refusal p command ≡ refused_as it) result

  -- it does the command with the bytes of which this holds on the shelf, and writes this text as last_change
  pub record LendsBytes (When : List ℕ → Shelf → Type 0) (command : List ℕ → Command) (last_change : Text)
      (result : Result Outcome Fault) : Type 0 where
    pub same : IsSame old new
    pub lent : (profile : Profile) (bytes : List ℕ) → IsMove (state g old.conn.now) (state g new.conn.now)
        (λ base v. IsSeen no_spare profile (state g old.conn.now) base v
        × (Meets profile v.content × When bytes v.kept.shelf))
        (λ base v it w. (w.content ≡ step_at v.content (command bytes) last_change)
        × IsSeen no_spare profile (state g new.conn.now) base w
        × (refusal v.content (command bytes) ≡ refused_as it)) result

  -- it writes this text as last_change of a table that stands
  pub record Touches (table last_change : Text) (result : Result Outcome Fault) : Type 0 where
    pub goes : Goes g old new (λ profile p. ⊤) (touched table last_change) (λ profile. IsTouched table) result

  module _ {T : Type 0} where
    -- it leaves the view as it was: the package, and how its bytes are kept
    abbrev pub LeavesView : Result T Fault → Type 0
    LeavesView = Finds g old new (λ v it. ⊤)

    -- it only looks, and answers so of a view whose package meets the rules
    abbrev pub FindsByRules : (View → T → Type 0) → Result T Fault → Type 0
    FindsByRules Says = Finds g old new (λ v it. (profile : Profile) → Meets profile v.content → Says v it)
