-- What an import keeps, whatever its folder tells.
use Rattle.std.proofs.Common.{◌≡◌, ◌∙◌, ◌⊎◌, inl, inr, ◌≤◌, ◌<◌, ◌+◌, ℕ, pos, List, [], ◌∷◌, ◌++◌, length}
use Rattle.std.proofs.Common.{Option, Some}
use Rattle.std.proofs.Common.{None, Ok, true, false, refl, sym, ap, subst, arith, append_assoc, append-nil}
use Rattle.std.proofs.Common.{length-append}
use Rattle.std.proofs.Math.Dec.{leb}
use Rattle.std.proofs.lemmas.Bool.Decides.{leb_tells}
use Rattle.mm_definitions.specs.Bounds.{current}
use Rattle.mm_definitions.specs.Keys.{Text}
use Rattle.mm_definitions.specs.Package.{Package}
use Rattle.mm_definitions.specs.Rules.{Meets}
use Rattle.mm_definitions.specs.Step.{refusal, step}
use Rattle.mm_definitions.specs.Refusals.{Refusal}
use Rattle.mm_definitions.specs.declared.commands.Command.{Command}
use Rattle.mm_definitions.specs.declared.commands.Command.TheVariants as commands
use Rattle.mm_definitions.specs.declared.commands.Piece.{Piece}
use Rattle.mm_definitions.proofs.RefusalFacts.{refused}
use Rattle.mm_kit.specs.Editions.{HasPieces}
use Rattle.mm_kit.specs.Imports.{IsEntryStaged, IsFirstOf, IsPassedBy, KeepsOthers, SameBut}
use Rattle.mm_kit.specs.Folders.{Files}
use Rattle.mm_kit.specs.declared.entries.KitEntry.{KitEntry}
use Rattle.mm_run.specs.Applied.{IsSound}
use Rattle.mm_run.specs.Shown.{Shown}
use Rattle.mm_kit.proofs.LawFacts.{numbered-in}
use Rattle.mm_kit.proofs.StageFacts.{end_step, equal_step, has_grown, has_one, other_refused, same_grown, same_or_other}

-- a package keeps its own pieces
pub keeps_itself : (name : Text) (p : Package) → KeepsOthers name p p
keeps_itself name p = (record { parts = refl; others = λ k d. refl }, λ old has. (old, has, ([], sym (append-nil old))))

-- at first nothing was passed
pub passed_by-none : (name : Text) (p : Package) (old : List Piece) → HasPieces p name old → IsPassedBy 0 name p old p
passed_by-none name p old before =
    (old, before, omega arith, ([], sym (append-nil old)), record { parts = refl; others = λ k d. refl })

pub kept : (k : ℕ) (name : Text) (p : Package) (old : List Piece) (q : Package) → HasPieces p name old
    → IsPassedBy k name p old q → KeepsOthers name p q
kept k name p old q before (new, has, long, front, same) =
    (same, λ other stands. (new, has, subst (λ l. IsFirstOf l new) (has_one p name old other before stands) front))

module _ (name : Text) (p q : Package) (old : List Piece) (meets : Meets current q) (x : Piece) (k : ℕ) where
  abbrev c : Command
  c = commands.Stage name (pos (k + 1)) x

  -- a piece stands at the number
  there : (new : List Piece) → HasPieces q name new → k + 1 ≤ length new → IsFirstOf old new → SameBut name p q
      → refusal q c ≡ None → (moment : ℕ)
      → IsPassedBy (k + 1) name p old (step q c moment)
  there new has long front same free moment =
      let (y, at) = numbered-in new (k + 1) (omega arith) long in
      elim (same_or_other x y) as (λ _. IsPassedBy (k + 1) name p old (step q c moment)) [
        | inl s ↦ subst (IsPassedBy (k + 1) name p old)
            (sym (equal_step q name new meets has x (k + 1) y at s.0 moment)) (new, has, long, front, same)
        | inr s ↦ absurd (let f : ◌≡◌ {A = Option Refusal} None (Some (refused 52)) = sym free
            ∙ other_refused q name new meets has x (k + 1) y at s.0 in cc)
      ]

  -- none does, and it is the next
  at_end : (new : List Piece) → HasPieces q name new → k ≡ length new → k < 4096 → IsFirstOf old new → SameBut name p q
      → (moment : ℕ)
      → IsPassedBy (k + 1) name p old (step q c moment)
  at_end new has is less front same moment =
      subst (λ n. IsPassedBy (n + 1) name p old (step q (commands.Stage name (pos (n + 1)) x) moment)) (sym is)
      (subst (IsPassedBy (length new + 1) name p old)
      (sym (end_step q name new meets has x (omega (arith, is, less)) moment)) (
        new ++ x ∷ [],
        has_grown q name new meets has x,
        omega (arith, length-append new (x ∷ [])),
        (front.0 ++ x ∷ [], ap (λ l. l ++ x ∷ []) front.1 ∙ append_assoc old front.0 (x ∷ [])),
        same_grown q name new meets has x p same,
      ))

  -- one more piece that is accepted
  pub passed_by-more : k < 4096 → IsPassedBy k name p old q → refusal q c ≡ None → (moment : ℕ)
      → IsPassedBy (k + 1) name p old (step q c moment)
  passed_by-more less (new, has, long, front, same) free moment = by (leb_tells (k + 1) (length new))
    where
      by : ((leb (k + 1) (length new) ≡ true) × (k + 1 ≤ length new))
          ⊎ ((leb (k + 1) (length new) ≡ false) × (length new < k + 1))
          → IsPassedBy (k + 1) name p old (step q c moment)
      by (inl s) = there new has s.1 front same free moment
      by (inr s) = at_end new has (omega (arith, s.1, long)) less front same moment

  -- one that is in doubt
  pub kept_in_doubt : {D : Type 0} (stands_for : D → Package → Type 0) (db : D) → HasPieces p name old → k < 4096
      → IsPassedBy k name p old q
      → (moment : ℕ) → Meets current (step q c moment)
      → stands_for db q ⊎ ((refusal q c ≡ None) × stands_for db (step q c moment)) → (r : Package) × stands_for db r
      × Meets current r × KeepsOthers name p r
  kept_in_doubt stands_for db before less passed moment next (inl stands) =
      (q, stands, meets, kept k name p old q before passed)
  kept_in_doubt stands_for db before less passed moment next (inr (free, stands)) = (
    step q c moment,
    stands,
    next,
    kept (k + 1) name p old (step q c moment) before
        (passed_by-more less passed free moment),
  )

-- an entry was staged
pub passed-staged : {D : Type 0} (shows : Shown D) (told : Option Files) (e : KitEntry) (name : Text) (p q : Package)
    (old : List Piece) (k : ℕ)
    → Meets current q → k < 4096 → IsPassedBy k name p old q → (moment : ℕ)
    → IsEntryStaged told e name (k + 1) q moment shows (Ok None) → (r : Package) × IsSound shows.settled r
    × IsPassedBy (k + 1) name p old r
passed-staged shows told e name p q old k meets less passed moment (x, it, good, goes) = (
  step q (commands.Stage name (pos (k + 1)) x) moment,
  goes,
  passed_by-more name p q old meets x k less passed good
      moment,
)
